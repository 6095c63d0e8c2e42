use Rattle.std.proofs.Common.{◌≡◌, ◌≤◌, take, slice_get, vec_capacity}
use Rattle.jlr_links.specs.Lists.{list_at}
use Rattle.jlr_links.proofs.links.Links.image.Given as goal

-- the slots so far, and the one that comes next
abbrev pub invariant-loop-place : goal.invariant-loop-place
invariant-loop-place l = record {
  so_far : l.slots.items ≡ take l._place (list_at l.self.lists l.list);
  next : l.next ≡ slice_get (list_at l.self.lists l.list) l._place;
  room : l.count ≤ vec_capacity l.slots;
}
