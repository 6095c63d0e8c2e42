-- A record keeps its entry, and an answer that is replayed changes nothing in the machine.
use Rattle.std.proofs.Common.{◌≡◌, ℕ, suc, Bool, true, false, cond, List, [], ◌∷◌, ◌++◌, length, Option, Some, None}
use Rattle.std.proofs.Common.{refl, sym, ◌∙◌, ap, subst}
use Rattle.std.proofs.lemmas.Bool.{both_ways}
use Rattle.jlr_machine.specs.declared.machine.Machine.{Machine}
use Rattle.jlr_machine.specs.declared.ask.Ask.{Ask}
use Rattle.jlr_machine.specs.declared.ask.Ask.TheVariants as ask
use Rattle.jlr_machine.specs.declared.ask.Answer.{Answer}
use Rattle.jlr_machine.specs.declared.ask.Stat.{Stat}
use Rattle.jlr_machine.specs.declared.ask.Answer.TheVariants as answer
use Rattle.jlr_machine.specs.declared.entry.Collected.{Collected}
use Rattle.jlr_machine.specs.declared.entry.Entry.{Entry}
use Rattle.jlr_machine.specs.Refusals.{is_refusal}
use Rattle.jlr_machine.specs.Calls.{after, new_handle}
use Rattle.jlr_machine.specs.Calls.{reply}
use Rattle.jlr_machine.specs.Run.{Answers, IsLegal, MayCollect, Run, apply, carried, with_collection}
use Rattle.jlr_machine.specs.Run.IsLegal.{carried_out, refused, heap_full, out_of_memory}
use Rattle.jlr_laws.proofs.LegalKept.{no_need}
use Rattle.jlr_histories.proofs.Left.{leaves_the_same}
use Rattle.jlr_plain_asks.specs.Counts.{HasNextAction}
use Rattle.jlr_plain_asks.specs.Replaying.{counts_with, is_long, long_reply, where_long}
use Rattle.jlr_plain_asks.proofs.Short.{new_is_short}
use Rattle.jlr_plain.specs.declared.record.ShortAnswer.{ShortAnswer}
use Rattle.jlr_plain.specs.declared.record.ShortAnswer.TheVariants as short
use Rattle.jlr_plain.specs.declared.record.Record.{Record}
use Rattle.jlr_plain.specs.Records.{answer_from, entry_in, has_short_count, number_told, record_of, replayed, short_of}
use Rattle.jlr_plain.specs.Unseen.{unseen, IsLegalBefore}
use Rattle.jlr_plain.proofs.Applying.{next_legal}

-- ---- A long answer is that of the machine

where_long_is : (o : Option Answer) (a : Answer) → o ≡ Some a → is_long a ≡ true → where_long o ≡ a
where_long_is o a e h =
    ap {A = Option Answer} {B = Answer} where_long e ∙ ap {A = Bool} {B = Answer} (λ b. cond b a answer.Done) h

-- what is never long is not this long answer
not_long : (o : Option Answer) (a : Answer) → where_long o ≡ answer.Done → o ≡ Some a → is_long a ≡ true → ⊥
not_long o a n e h = both_ways (is_long a) (ap {A = Answer} {B = Bool} is_long (sym (where_long_is o a e h) ∙ n)) h

-- with a collection no long answer comes: an ask that needs no cell comes with none
none_collected : (m n : Machine) (asked : Ask) (c : Collected) (a : Answer) → MayCollect m asked (Some c)
    → Answers n asked (Some c) a → is_long a ≡ true → ⊥
none_collected m n (ask.New k layout) c a may is h = not_long (new_handle n k) a (new_is_short n k) is h
none_collected m n (ask.MakeRef k kind x q) c a may is h = not_long (new_handle n k) a (new_is_short n k) is h
none_collected m n (ask.MakeQueue k) c a may is h = not_long (new_handle n k) a (new_is_short n k) is h
none_collected m n (ask.MakeCleaner k) c a may is h = not_long (new_handle n k) a (new_is_short n k) is h
none_collected m n (ask.Register k d x note) c a may is h = not_long (new_handle n k) a (new_is_short n k) is h
none_collected m n (ask.Array k size) c a may is h = not_long (new_handle n k) a (new_is_short n k) is h
none_collected m n (ask.Full k mode) c a may is h = not_long (Some answer.Done) a refl is h
none_collected m n (ask.Prepare k) c a may is h = both_ways (is_long a) (ap is_long is.3) h
none_collected m n ask.Collect c a may is h = both_ways (is_long a) (ap is_long is) h
none_collected m n asked c a may is h = no_need m may.0

long_without : (m : Machine) (asked : Ask) (a : Answer) → Answers m asked None a → is_long a ≡ true → long_reply m asked ≡ a
long_without m (ask.Prepare k) a is h = absurd (both_ways (is_long a) (ap is_long is.3) h)
long_without m ask.Collect a is h = absurd (both_ways (is_long a) (ap is_long is) h)
long_without m asked a is h = where_long_is (reply m asked) a is h

long_is : (m : Machine) (asked : Ask) (collected : Option Collected) (a : Answer) → MayCollect m asked collected
    → Answers (with_collection m collected) asked collected a → is_long a ≡ true → long_reply m asked ≡ a
long_is m asked None a may is h = long_without m asked a is h
long_is m asked (Some c) a may is h = absurd (none_collected m (with_collection m (Some c)) asked c a may is h)

long_given : (m : Machine) (e : Entry) → IsLegal m e → is_long e.answer ≡ true → long_reply m e.ask ≡ e.answer
long_given m e (carried_out c) h = long_is m e.ask e.choice.collected e.answer c.collection c.answers h
long_given m e (refused r) h = absurd (both_ways (is_long e.answer) (ap is_long r.answers) h)
long_given m e (heap_full r) h = absurd (both_ways (is_long e.answer) (ap is_long r.answers) h)
long_given m e (out_of_memory r) h = absurd (both_ways (is_long e.answer) (ap is_long r.answers) h)

-- ---- A record keeps its entry

counts_kept : (long : Answer) (s : Stat) (b : Bool) → long ≡ answer.Stat s
    → answer_from long (cond b short.Counted short.Replayed) (cond b s.objects 0) ≡ answer.Stat s
counts_kept long s true h = ap (counts_with s.objects) h
counts_kept long s false h = h

answer_kept : (long a : Answer) → (is_long a ≡ true → long ≡ a) → answer_from long (short_of a) (number_told a) ≡ a
answer_kept long (answer.Int n) h = h refl
answer_kept long (answer.Data bytes) h = h refl
answer_kept long (answer.Names names) h = h refl
answer_kept long (answer.Notes notes) h = h refl
answer_kept long (answer.Faults faults) h = h refl
answer_kept long (answer.Stat s) h = counts_kept long s (has_short_count s.objects) (h refl)
answer_kept long (answer.Job action work) h = h refl
answer_kept long (answer.Out rid) h = h refl
answer_kept long a h = refl

pub entry_kept : (m : Machine) (e : Entry) → IsLegal m e → entry_in m (record_of e) ≡ e
entry_kept m e legal =
    ap {A = Answer} {B = Entry} (λ a. record { seat = e.seat; ask = e.ask; answer = a; choice = e.choice })
    (answer_kept (long_reply m e.ask) e.answer (long_given m e legal))

pub one_more : (m n : Machine) (records : List Record) (e : Entry) → Run m (replayed m records) n → IsLegal n e
    → replayed m (records ++ record_of e ∷ []) ≡ replayed m records ++ e ∷ []
one_more m n [] e r legal =
    ap {A = Entry} {B = List Entry} (λ x. x ∷ []) (entry_kept m e (subst (λ (k : Machine). IsLegal k e) r legal))
one_more m n (x ∷ records) e r legal =
    ap {A = List Entry} {B = List Entry} (λ t. entry_in m x ∷ t) (one_more (apply m (entry_in m x)) n records e r.1 legal)

pub as_many : (m : Machine) (records : List Record) → length (replayed m records) ≡ length records
as_many m [] = refl
as_many m (r ∷ records) = ap {A = ℕ} {B = ℕ} suc (as_many (apply m (entry_in m r)) records)

-- ---- What was seen matters to no answer

long_unseen : (m : Machine) (asked : Ask) → long_reply (unseen m) asked ≡ long_reply m asked
long_unseen m ask.TakeUp = refl
long_unseen m asked = refl

pub entry_unseen : (m : Machine) (r : Record) → entry_in (unseen m) r ≡ entry_in m r
entry_unseen m r =
    ap {A = Answer} {B = Entry}
    (λ a. record { seat = r.seat; ask = r.ask; answer = answer_from a r.answer r.number; choice = r.choice })
    (long_unseen m r.ask)

same_after : (m n : Machine) (e : Entry) → unseen m ≡ unseen n → unseen (apply m e) ≡ unseen (apply n e)
same_after m n e same =
    sym (leaves_the_same m [] e) ∙ ap {A = Machine} {B = Machine} (λ x. unseen (apply x e)) same ∙ leaves_the_same n [] e

pub same_replayed : (m n : Machine) (records : List Record) → unseen m ≡ unseen n → replayed m records ≡ replayed n records
same_replayed m n [] same = refl
same_replayed m n (r ∷ records) same =
    let e = entry_in m r in
    let one : e ≡ entry_in n r = sym (entry_unseen m r) ∙ ap {A = Machine} {B = Entry} (λ x. entry_in x r) same ∙ entry_unseen n r in
    ap {A = Entry} {B = List Entry} (λ x. x ∷ replayed (apply m e) records) one
    ∙ ap {A = List Entry} {B = List Entry} (λ rest. entry_in n r ∷ rest)
    (same_replayed (apply m e) (apply n e) records (same_after m n e same)
    ∙ ap {A = Entry} {B = List Entry} (λ x. replayed (apply n x) records) one)

-- ---- An answer that is replayed changes nothing

carries : (n : Machine) (asked : Ask) (a : Answer) (fresh : List ℕ) → is_refusal a ≡ false
    → carried n asked a fresh ≡ after n asked a fresh
carries n asked (answer.Refused by) fresh e = absurd (both_ways true e refl)
carries n asked a fresh e = refl

where_long_refuses : (o : Option Answer) → is_refusal (where_long o) ≡ false
where_long_refuses None = refl
where_long_refuses (Some (answer.Refused by)) = refl
where_long_refuses (Some a) = refl

long_refuses : (m : Machine) (asked : Ask) → is_refusal (long_reply m asked) ≡ false
long_refuses m asked = where_long_refuses (reply m asked)

long_carries : (n m : Machine) (asked : Ask) (fresh : List ℕ)
    → carried n asked (long_reply m asked) fresh ≡ carried n asked answer.Done fresh
long_carries n m (ask.Prepare k) fresh = refl
long_carries n m asked fresh = carries n asked (long_reply m asked) fresh (long_refuses m asked)

counted_refuses : (k : ℕ) (a : Answer) → is_refusal a ≡ false → is_refusal (counts_with k a) ≡ false
counted_refuses k (answer.Refused by) h = h
counted_refuses k a h = refl

counted_carries : (n m : Machine) (asked : Ask) (k : ℕ) (fresh : List ℕ)
    → carried n asked (counts_with k (long_reply m asked)) fresh ≡ carried n asked answer.Done fresh
counted_carries n m (ask.Prepare i) k fresh = refl
counted_carries n m asked k fresh =
    carries n asked (counts_with k (long_reply m asked)) fresh (counted_refuses k (long_reply m asked) (long_refuses m asked))

kept_carries : (n : Machine) (asked : Ask) (long : Answer) (s : ShortAnswer) (number : ℕ) (fresh : List ℕ)
    → carried n asked long fresh ≡ carried n asked answer.Done fresh
    → carried n asked (counts_with number long) fresh ≡ carried n asked answer.Done fresh
    → carried n asked (answer_from long s number) fresh ≡ carried n asked (answer_from answer.Done s number) fresh
kept_carries n asked long short.Counted number fresh h counted = counted
kept_carries n asked long short.Replayed number fresh h counted = h
kept_carries n asked long s number fresh h counted = refl

pub stand_in_carries : (n m : Machine) (r : Record)
    → carried n r.ask (answer_from (long_reply m r.ask) r.answer r.number) r.choice.fresh
    ≡ carried n r.ask (answer_from answer.Done r.answer r.number) r.choice.fresh
stand_in_carries n m r =
    let long = long_carries n m r.ask r.choice.fresh in
    let counted = counted_carries n m r.ask r.number r.choice.fresh in
    kept_carries n r.ask (long_reply m r.ask) r.answer r.number r.choice.fresh long counted

kept_refuses : (long : Answer) (s : ShortAnswer) (number : ℕ) → is_refusal long ≡ false
    → is_refusal (answer_from long s number) ≡ is_refusal (answer_from answer.Done s number)
kept_refuses long short.Counted number h = counted_refuses number long h
kept_refuses long short.Replayed number h = h
kept_refuses long s number h = refl

stand_in_refuses : (m : Machine) (r : Record)
    → is_refusal (entry_in m r).answer ≡ is_refusal (answer_from answer.Done r.answer r.number)
stand_in_refuses m r = kept_refuses (long_reply m r.ask) r.answer r.number (long_refuses m r.ask)

-- ---- A record is followed

-- an ask that names an action finds a number for the next
pub has_next_action : (n : Machine) (r : Record) → IsLegalBefore n (entry_in n r)
    → is_refusal (answer_from answer.Done r.answer r.number) ≡ false → HasNextAction n.next_action r.ask
has_next_action n r before stays =
    subst (λ (x : Machine). HasNextAction x.next_action r.ask) (sym before.same)
    (next_legal before.machine (entry_in n r) before.legal (stand_in_refuses n r ∙ stays))
