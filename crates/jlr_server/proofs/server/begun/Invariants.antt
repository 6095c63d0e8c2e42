use Rattle.std.specs.Prelude.{◌≡◌, length, take}
use Rattle.std.specs.List.{All}
use Rattle.jlr_server.specs.Serving.{BeginWith, IsUnasked}
use Rattle.jlr_server.proofs.Begins.{AllFresh}
use Rattle.jlr_server.proofs.server.begun.Given as goal

abbrev pub invariant-loop : goal.invariant-loop
invariant-loop g l = record {
  seats : AllFresh l.seats.items;
  devices : l.devices.items ≡ take (length l.seats.items) l.fn.devices.items;
  fresh : All IsUnasked l.works.items;
  begun : BeginWith l.fn.devices.items l.works.items;
}
