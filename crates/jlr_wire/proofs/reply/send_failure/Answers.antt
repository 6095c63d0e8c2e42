use Rattle.std.specs.Prelude.{decimal, codes}
use Rattle.std.proofs.Common.{◌≡◌, ℕ, List, ◌∷◌, [], ◌++◌, append_assoc, ap, sym}
use Rattle.std.proofs.lemmas.Result.{err_from_is_err_and}
use Rattle.jlr_wire.specs.Replies.{fault_text}
use Rattle.jlr_wire.proofs.Sending.{then_sends, front_first, front_same, appends_same, sends_same}
use Rattle.jlr_wire.proofs.reply.send_failure.Goals as goal

-- the action and its fault are the item
parts_are : (action : ℕ) (name : List ℕ) → (32 ∷ decimal action) ++ (58 ∷ name) ≡ 32 ∷ (decimal action ++ codes ":" ++ name)
parts_are action name = ap (λ bytes. 32 ∷ bytes) (sym (append_assoc (decimal action) (58 ∷ []) name))

pub returns-in_err-send_after : goal.returns-in_err-send_after
returns-in_err-send_after g c =
    let p = err_from_is_err_and c.from_residual.result c.from_residual.ensures.1 in
    let action = c.args.failure.now.action in
    let name = fault_text c.args.failure.now.fault in
    let sent = front_same _ _ _ (32 ∷ decimal action) (ap (λ n. 32 ∷ decimal n) c.number.ensures) c.in_err-send_after.ensures in
    rw p.1 (front_same _ _ _ _ (parts_are action name) (front_first _ _ (32 ∷ decimal action) (58 ∷ name) sent))

pub returns : goal.returns
returns g c =
    let action = c.args.failure.now.action in
    let name = fault_text c.args.failure.now.fault in
    sends_same _ _ c.send_both.result _ _ (parts_are action name)
    (then_sends _ _ _ c.send_both.result (32 ∷ decimal action) (58 ∷ name)
    (appends_same _ _ _ (32 ∷ decimal action) (ap (λ n. 32 ∷ decimal n) c.number.ensures) c.in_ok-send_after.ensures)
    (sends_same _ _ c.send_both.result _ (58 ∷ name) (ap (λ bytes. 58 ∷ bytes) c.fault_name.ensures) c.send_both.ensures))
