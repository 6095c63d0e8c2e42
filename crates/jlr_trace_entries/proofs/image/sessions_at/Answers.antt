use Rattle.std.proofs.Common.{◌≡◌, ◌+◌, ◌-◌, List, [], ◌∷◌, ◌++◌, Option, length, ap, subst, sym, ◌∙◌, arith}
use Rattle.std.specs.Prelude.{map, option_map}
use Rattle.std.proofs.lemmas.List.{map-append, length-append}
use Rattle.std.proofs.lemmas.Result.{err_from_is_err_and}
use Rattle.jlr_machine.specs.declared.machine.Session.{Session}
use Rattle.jlr_trace_fields.specs.Items.{items_at}
use Rattle.jlr_trace_fields.proofs.Loop.{with_front, goes_on, ends, is_done}
use Rattle.std.specs.List.{AllByRecursion}
use Rattle.jlr_trace_entries.specs.Images.{SessionText, session_text, session_read, HasPlaces}
use Rattle.jlr_trace_entries.proofs.image.sessions_at.Goals as goal

longer : (old new : List (Option Session)) (s : Option Session) → new ≡ old ++ s ∷ []
    → map (option_map session_text) new ≡ map (option_map session_text) old ++ option_map session_text s ∷ []
longer old new s e = ap (map (option_map session_text)) e ∙ map-append (option_map session_text) old (s ∷ [])

behind : (xs : List (Option Session)) (s : Option Session) → AllByRecursion HasPlaces xs → HasPlaces s
    → AllByRecursion HasPlaces (xs ++ s ∷ [])
behind [] s all one = (one, tt)
behind (x ∷ xs) s all one = (all.0, behind xs s all.1 one)

one_more : (old new : List (Option Session)) (s : Option Session) → new ≡ old ++ s ∷ [] → AllByRecursion HasPlaces old → HasPlaces s
    → AllByRecursion HasPlaces new
one_more old new s e all one = subst (λ (xs : List (Option Session)). AllByRecursion HasPlaces xs) (sym e) (behind old s all one)

pub returns-in_err-session-clause-reads : goal.returns-in_err-session-clause-reads
returns-in_err-session-clause-reads c =
    let p = err_from_is_err_and c.from_residual.result c.from_residual.ensures.1 in
    rw (p.1, p.2) (ends session_read c.in_err-session.field-0.0 (map (option_map session_text) c.loop.sessions.items) c.args.count
    c.loop.counter c.loop.bytes.now (items_at session_read c.args.count c.args.bytes.now.now) c.loop-test.true
    c.in_err-session.ensures.reads c.loop.invariant.read)

pub loop-preserved : goal.loop-preserved
loop-preserved c = record {
  read = subst (λ (xs : List (Option SessionText)). with_front xs
      (items_at session_read (c.args.count - (c.loop.counter + 1)) c.session_at.new.bytes.now)
      ≡ items_at session_read c.args.count c.args.bytes.now.now)
      (sym (longer c.loop.sessions.items c.push.new.self.items c.in_ok-session.session c.in_ok-push.ensures.items))
      (goes_on session_read (map (option_map session_text) c.loop.sessions.items) c.args.count c.loop.counter c.loop.bytes.now
      (option_map session_text c.in_ok-session.session) c.session_at.new.bytes.now
      (items_at session_read c.args.count c.args.bytes.now.now) c.loop-test.true c.in_ok-session.ensures.reads c.loop.invariant.read);
  sized = ap length c.in_ok-push.ensures.items ∙ length-append c.loop.sessions.items (c.in_ok-session.session ∷ [])
      ∙ omega (arith, c.loop.invariant.sized);
  places = one_more c.loop.sessions.items c.push.new.self.items c.in_ok-session.session c.in_ok-push.ensures.items c.loop.invariant.places
      c.in_ok-session.ensures.places;
}

pub returns-clause-reads : goal.returns-clause-reads
returns-clause-reads c = is_done session_read (map (option_map session_text) c.loop.sessions.items) c.args.count c.loop.counter
    c.loop.bytes.now (items_at session_read c.args.count c.args.bytes.now.now) c.loop-test.false c.loop.invariant.read
