-- What is carried out in one way is carried out in another way as well, along a relation between the two.
use Rattle.std.proofs.Common.{◌≢◌, ℕ, inl, inr, List, [], ◌∷◌, refl, sym, subst}
use Rattle.jlr_machine.specs.declared.ask.Answer.{Answer}
use Rattle.jlr_wire.specs.declared.command.Command.{Command}
use Rattle.jlr_wire.specs.declared.command.Command.TheVariants.{Bye}
use Rattle.jlr_session.specs.Carrying.{Carrying}
use Rattle.jlr_session.specs.Turns.{AnswersLine, AnswersAndSettles}
use Rattle.jlr_session.specs.Sessions.{Speaks, AnsweredLines, IsAnswerDue, Ended}
use Rattle.jlr_session.specs.declared.shell.SessionEnd.{SessionEnd}
use Rattle.jlr_session.specs.declared.shell.SessionEnd.TheVariants.{Bye as EndsByBye, End, Truncated, ReadFault, WriteFault, TooManyLines}
use Rattle.jlr_session.specs.declared.shell.SessionEnd.TheVariants.{NotJoined}

pub record IsFollowed {H X : Type 0} (carries : Carrying H) (tells : Carrying X) (S : H → X → Type 0) : Type 0 where
  pub commands : (h k : H) (x : X) (c : Command) (a : Answer) → c ≢ Bye → carries.command h c a k → S h x → (y : X) × tells.command x c a y
      × S k y
  pub settlings : (h k : H) (x : X) → carries.settling h k → S h x → (y : X) × tells.settling x y × S k y

answers_along : {H X : Type 0} (carries : Carrying H) (tells : Carrying X) (S : H → X → Type 0)
    → IsFollowed carries tells S → (line : List ℕ) (h k : H) (a : Answer) (x : X) → AnswersLine carries line h a k → S h x → (y : X)
    × AnswersLine tells line x a y × S k y
answers_along carries tells S f line h k a x (inl c) s = let d = f.commands h k x c.0 a c.2 c.3 s in (d.0, inl (c.0, c.1, c.2, d.1), d.2)
answers_along carries tells S f line h k a x (inr (inl b)) s = (x, inr (inl (b.0, b.1, refl)), subst (λ l. S l x) (sym b.2) s)
answers_along carries tells S f line h k a x (inr (inr r)) s = (x, inr (inr (r.0, r.1, refl)), subst (λ l. S l x) (sym r.2) s)

turns_along : {H X : Type 0} (carries : Carrying H) (tells : Carrying X) (S : H → X → Type 0)
    → IsFollowed carries tells S → (line : List ℕ) (h k : H) (a : Answer) (x : X) → AnswersAndSettles carries line h a k → S h x → (y : X)
    × AnswersAndSettles tells line x a y × S k y
turns_along carries tells S f line h k a x t s =
    let one = answers_along carries tells S f line h t.0 a x t.1 s in
    let settled = f.settlings t.0 k one.0 t.2 one.2 in
    (settled.0, (one.0, one.1, settled.1), settled.2)

speaks_along : {H X : Type 0} (carries : Carrying H) (tells : Carrying X) (S : H → X → Type 0)
    → IsFollowed carries tells S → (lines : List (List ℕ)) (h k : H) (out : List ℕ) (x : X) → Speaks carries lines h out k → S h x → (y : X)
    × Speaks tells lines x out y × S k y
speaks_along carries tells S f [] h k out x e s = (x, (e.0, refl), subst (λ l. S l x) (sym e.1) s)
speaks_along carries tells S f (line ∷ lines) h k out x e s =
    let one = turns_along carries tells S f line h e.1 e.0 x e.3 s in
    let more = speaks_along carries tells S f lines e.1 k e.2 one.0 e.7 one.2 in
    (more.0, (e.0, one.0, e.2, one.1, e.4, e.5, e.6, more.1), more.2)

answered_along : {H X : Type 0} (carries : Carrying H) (tells : Carrying X) (S : H → X → Type 0)
    → IsFollowed carries tells S → (bytes : List ℕ) (lines : List (List ℕ)) (rest : List ℕ) (h k : H) (out : List ℕ) (x : X)
    → AnsweredLines carries bytes lines rest h out k → S h x
    → (y : X) × AnsweredLines tells bytes lines rest x out y × S k y
answered_along carries tells S f bytes lines rest h k out x a s =
    let d = speaks_along carries tells S f lines h k out x a.speaks s in
    (d.0, record { joined = a.joined; each = a.each; speaks = d.1 }, d.2)

due_along : {H X : Type 0} (carries : Carrying H) (tells : Carrying X) (S : H → X → Type 0)
    → IsFollowed carries tells S → (at_end : Type 0) (rest : List ℕ) (h k : H) (a : Answer) (x : X) → IsAnswerDue carries at_end rest h a k
    → S h x → (y : X) × IsAnswerDue tells at_end rest x a y × S k y
due_along carries tells S f at_end rest h k a x (inl d) s = let e = answers_along carries tells S f d.0 h k a x d.4 s in
    (e.0, inl (d.0, d.1, d.2, d.3, e.1), e.2)
due_along carries tells S f at_end rest h k a x (inr d) s = (x, inr (d.0, d.1, d.2, d.3, refl), subst (λ l. S l x) (sym d.4) s)

pub ended_along : {H X : Type 0} (carries : Carrying H) (tells : Carrying X) (S : H → X → Type 0)
    → IsFollowed carries tells S → (at_end : Type 0) (end : SessionEnd) (bytes : List ℕ) (h k : H) (out : List ℕ) (x : X)
    → Ended carries at_end end bytes h out k → S h x
    → (y : X) × Ended tells at_end end bytes x out y × S k y
ended_along carries tells S f at_end EndsByBye bytes h k out x e s =
    let a = answered_along carries tells S f bytes e.0 _ h e.3 e.2 x e.4 s in
    let settled = f.settlings e.3 k a.0 e.6 a.2 in
    (settled.0, (e.0, e.1, e.2, a.0, a.1, e.5, settled.1, e.7), settled.2)
ended_along carries tells S f at_end End bytes h k out x e s = let a = answered_along carries tells S f bytes e.1 _ h k out x e.2 s in
    (a.0, (e.0, e.1, a.1, e.3), a.2)
ended_along carries tells S f at_end Truncated bytes h k out x e s =
    let a = answered_along carries tells S f bytes e.1 e.2 h e.4 e.3 x e.5 s in
    let settled = f.settlings e.4 k a.0 e.9 a.2 in
    (settled.0, (e.0, e.1, e.2, e.3, a.0, a.1, e.6, e.7, e.8, settled.1, e.10), settled.2)
ended_along carries tells S f at_end ReadFault bytes h k out x e s =
    let a = answered_along carries tells S f bytes e.0 e.1 h k out x e.2 s in (a.0, (e.0, e.1, a.1, e.3, e.4), a.2)
ended_along carries tells S f at_end WriteFault bytes h k out x e s =
    let a = answered_along carries tells S f bytes e.0 e.1 h e.3 e.2 x e.6 s in
    let d = due_along carries tells S f at_end e.1 e.3 k e.4 a.0 e.8 a.2 in
    (d.0, (e.0, e.1, e.2, a.0, e.4, e.5, a.1, e.7, d.1, e.9), d.2)
ended_along carries tells S f at_end TooManyLines bytes h k out x e s =
    let a = answered_along carries tells S f bytes e.0 e.1 h k out x e.2 s in (a.0, (e.0, e.1, a.1, e.3), a.2)
ended_along carries tells S f at_end (NotJoined by) bytes h k out x e s = absurd e
