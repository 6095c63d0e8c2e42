-- Whether two answers are the same is decided.
use Rattle.std.proofs.Common.{◌≡◌, ℕ, Bool, true, false, ◌&&◌, Decides, nat_eq, bytes_eq, List, [], ◌∷◌, refl, sym, ◌∙◌, ap, subst, get_or}
use Rattle.std.specs.Cmp.Lexicographic.{pointwise}
use Rattle.std.proofs.lemmas.Bool.{both_ways, and_parts, and_from}
use Rattle.std.proofs.lemmas.Bool.Decides.{Decides-and, Decides-eqb, Decides-int_eq}
use Rattle.std.proofs.lemmas.Slice.Eq.{slice_eq-Decides, bytes_eq-Decides}
use Rattle.jlr_types.specs.declared.Refusal.TheVariants.{NoMemory, HeapFull, NoHandle, HandlesFull, WrongKind, NoField, WrongType, Null}
use Rattle.jlr_types.specs.declared.Refusal.TheVariants.{NoName, NamesFull, Busy, Closed, NoSession, Exhausted, Malformed, TooLong, NotOut}
use Rattle.jlr_types.specs.declared.Refusal.TheVariants.{WouldWait, ResourcesFull}
use Rattle.jlr_types.specs.declared.Fault.{Fault}
use Rattle.jlr_types.specs.declared.Fault.TheVariants.{NotFound, Denied, Other}
use Rattle.jlr_types.specs.declared.Work.{Work}
use Rattle.jlr_types.specs.declared.Work.TheVariants.{Note, Resource}
use Rattle.jlr_types.specs.declared.Refusal.{Refusal}
use Rattle.jlr_types.specs.Numbers.{number_of}
use Rattle.jlr_machine.specs.declared.machine.Failure.{Failure}
use Rattle.jlr_machine.specs.declared.ask.Handed.{Handed}
use Rattle.jlr_machine.specs.declared.ask.Handed.TheVariants.{Queued, Lined, Skipped, Nothing}
use Rattle.jlr_machine.specs.declared.ask.Stat.{Stat}
use Rattle.jlr_machine.specs.declared.ask.Answer.{Answer}
use Rattle.jlr_machine.specs.declared.ask.Answer.TheVariants.{Done, Handle, Truth, Int, Data, Wrote, Faulted, Names, Notes, Faults}
use Rattle.jlr_machine.specs.declared.ask.Answer.TheVariants.{Stat as StatAnswer, Job, AlreadyDone, Prepared, Out as OutAnswer}
use Rattle.jlr_machine.specs.declared.ask.Answer.TheVariants.{Handed as HandedAnswer, Refused}
use Rattle.jlr_laws.specs.Same.{same_truth, same_fault, same_work, same_handed, same_refusal, same_failure, same_stat, same_answer}

pub Decides-truth : (a b : Bool) → Decides (same_truth a b) (a ≡ b)
Decides-truth true true = (λ _. refl, λ _. refl)
Decides-truth true false = (λ h. absurd (both_ways false refl h), λ e. sym e)
Decides-truth false true = (λ h. absurd (both_ways false refl h), λ e. e)
Decides-truth false false = (λ _. refl, λ _. refl)

fault_to : (a b : Fault) → same_fault a b ≡ true → a ≡ b
fault_to NotFound NotFound h = refl
fault_to NotFound Denied h = absurd (both_ways false refl h)
fault_to NotFound Other h = absurd (both_ways false refl h)
fault_to Denied NotFound h = absurd (both_ways false refl h)
fault_to Denied Denied h = refl
fault_to Denied Other h = absurd (both_ways false refl h)
fault_to Other NotFound h = absurd (both_ways false refl h)
fault_to Other Denied h = absurd (both_ways false refl h)
fault_to Other Other h = refl

fault_self : (a : Fault) → same_fault a a ≡ true
fault_self NotFound = refl
fault_self Denied = refl
fault_self Other = refl

Decides-fault : (a b : Fault) → Decides (same_fault a b) (a ≡ b)
Decides-fault a b = (fault_to a b, λ e. subst (λ x. same_fault a x ≡ true) e (fault_self a))

handed_to : (a b : Handed) → same_handed a b ≡ true → a ≡ b
handed_to Queued Queued h = refl
handed_to Queued Lined h = absurd (both_ways false refl h)
handed_to Queued Skipped h = absurd (both_ways false refl h)
handed_to Queued Nothing h = absurd (both_ways false refl h)
handed_to Lined Queued h = absurd (both_ways false refl h)
handed_to Lined Lined h = refl
handed_to Lined Skipped h = absurd (both_ways false refl h)
handed_to Lined Nothing h = absurd (both_ways false refl h)
handed_to Skipped Queued h = absurd (both_ways false refl h)
handed_to Skipped Lined h = absurd (both_ways false refl h)
handed_to Skipped Skipped h = refl
handed_to Skipped Nothing h = absurd (both_ways false refl h)
handed_to Nothing Queued h = absurd (both_ways false refl h)
handed_to Nothing Lined h = absurd (both_ways false refl h)
handed_to Nothing Skipped h = absurd (both_ways false refl h)
handed_to Nothing Nothing h = refl

handed_self : (a : Handed) → same_handed a a ≡ true
handed_self Queued = refl
handed_self Lined = refl
handed_self Skipped = refl
handed_self Nothing = refl

Decides-handed : (a b : Handed) → Decides (same_handed a b) (a ≡ b)
Decides-handed a b = (handed_to a b, λ e. subst (λ x. same_handed a x ≡ true) e (handed_self a))

work_to : (a b : Work) → same_work a b ≡ true → a ≡ b
work_to (Note a) (Note b) h = ap Note ((Decides-eqb a b).0 h)
work_to (Note a) (Resource b) h = absurd (both_ways false refl h)
work_to (Resource a) (Note b) h = absurd (both_ways false refl h)
work_to (Resource a) (Resource b) h = ap Resource ((Decides-eqb a b).0 h)

work_self : (a : Work) → same_work a a ≡ true
work_self (Note a) = (Decides-eqb a a).1 refl
work_self (Resource a) = (Decides-eqb a a).1 refl

Decides-work : (a b : Work) → Decides (same_work a b) (a ≡ b)
Decides-work a b = (work_to a b, λ e. subst (λ x. same_work a x ≡ true) e (work_self a))

-- the refusals by their numbers
abbrev refusals : List Refusal
refusals = NoMemory ∷ NoMemory ∷ HeapFull ∷ NoHandle ∷ HandlesFull ∷ WrongKind ∷ NoField ∷ WrongType ∷ Null ∷ NoName ∷ NamesFull ∷ Busy
    ∷ Closed ∷ NoSession ∷ Exhausted ∷ Malformed ∷ TooLong ∷ NotOut ∷ WouldWait ∷ ResourcesFull ∷ []

by_number : (a : Refusal) → get_or refusals (number_of a) NoMemory ≡ a
by_number NoMemory = refl
by_number HeapFull = refl
by_number NoHandle = refl
by_number HandlesFull = refl
by_number WrongKind = refl
by_number NoField = refl
by_number WrongType = refl
by_number Null = refl
by_number NoName = refl
by_number NamesFull = refl
by_number Busy = refl
by_number Closed = refl
by_number NoSession = refl
by_number Exhausted = refl
by_number Malformed = refl
by_number TooLong = refl
by_number NotOut = refl
by_number WouldWait = refl
by_number ResourcesFull = refl

pub Decides-refusal : (a b : Refusal) → Decides (same_refusal a b) (a ≡ b)
Decides-refusal a b = (
  (λ h. sym (by_number a) ∙ ap (λ n. get_or refusals n NoMemory) ((Decides-eqb (number_of a) (number_of b)).0 h) ∙ by_number b),
  (λ e. (Decides-eqb (number_of a) (number_of b)).1 (ap number_of e)),
)

Decides-failure : (a b : Failure) → Decides (same_failure a b) (a ≡ b)
Decides-failure a b =
    let both = Decides-and (nat_eq a.action b.action) (same_fault a.fault b.fault) (Decides-eqb a.action b.action)
    (Decides-fault a.fault b.fault) in (
      (λ h. let p = both.0 h in ap {A = ℕ} {B = Failure} (λ x. record { action = x; fault = a.fault }) p.0
          ∙ ap {A = Fault} {B = Failure} (λ x. record { action = b.action; fault = x }) p.1),
      (λ e. both.1 (ap (λ (x : Failure). x.action) e, ap (λ (x : Failure). x.fault) e)),
    )

Decides-stat : (a b : Stat) → Decides (same_stat a b) (a ≡ b)
Decides-stat a b =
    let all =
    Decides-and (nat_eq a.objects b.objects && nat_eq a.resources b.resources && nat_eq a.taken b.taken && nat_eq a.ok b.ok)
    (nat_eq a.failed b.failed)
    (Decides-and (nat_eq a.objects b.objects && nat_eq a.resources b.resources && nat_eq a.taken b.taken) (nat_eq a.ok b.ok)
    (Decides-and (nat_eq a.objects b.objects && nat_eq a.resources b.resources) (nat_eq a.taken b.taken)
    (Decides-and (nat_eq a.objects b.objects) (nat_eq a.resources b.resources) (Decides-eqb a.objects b.objects)
    (Decides-eqb a.resources b.resources))
    (Decides-eqb a.taken b.taken))
    (Decides-eqb a.ok b.ok))
    (Decides-eqb a.failed b.failed) in (
      (λ h.
          let p = all.0 h in
          ap {A = ℕ} {B = Stat} (λ x. record a { objects = x }) p.0.0.0.0
          ∙ ap {A = ℕ} {B = Stat} (λ x. record a { objects = b.objects; resources = x }) p.0.0.0.1
          ∙ ap {A = ℕ} {B = Stat} (λ x. record b { taken = x; ok = a.ok; failed = a.failed }) p.0.0.1
          ∙ ap {A = ℕ} {B = Stat} (λ x. record b { ok = x; failed = a.failed }) p.0.1
          ∙ ap {A = ℕ} {B = Stat} (λ x. record b { failed = x }) p.1),
      (λ e. all.1 (
        (
          ((ap (λ (x : Stat). x.objects) e, ap (λ (x : Stat). x.resources) e), ap (λ (x : Stat). x.taken) e),
          ap (λ (x : Stat). x.ok) e,
        ),
        ap (λ (x : Stat). x.failed) e,
      )),
    )

Decides-lists : (a b : List (List ℕ)) → Decides (pointwise bytes_eq a b) (a ≡ b)
Decides-lists a b = slice_eq-Decides bytes_eq-Decides a b (pointwise bytes_eq a b) refl

Decides-failures : (a b : List Failure) → Decides (pointwise same_failure a b) (a ≡ b)
Decides-failures a b = slice_eq-Decides Decides-failure a b (pointwise same_failure a b) refl

answer_to : (a b : Answer) → same_answer a b ≡ true → a ≡ b
answer_to Done Done h = refl
answer_to Done (Handle b0) h = absurd (both_ways false refl h)
answer_to Done (Truth b0) h = absurd (both_ways false refl h)
answer_to Done (Int b0) h = absurd (both_ways false refl h)
answer_to Done (Data b0) h = absurd (both_ways false refl h)
answer_to Done (Wrote b0) h = absurd (both_ways false refl h)
answer_to Done (Faulted b0) h = absurd (both_ways false refl h)
answer_to Done (Names b0) h = absurd (both_ways false refl h)
answer_to Done (Notes b0) h = absurd (both_ways false refl h)
answer_to Done (Faults b0) h = absurd (both_ways false refl h)
answer_to Done (StatAnswer b0) h = absurd (both_ways false refl h)
answer_to Done (Job b0 b1) h = absurd (both_ways false refl h)
answer_to Done AlreadyDone h = absurd (both_ways false refl h)
answer_to Done (Prepared b0) h = absurd (both_ways false refl h)
answer_to Done (OutAnswer b0) h = absurd (both_ways false refl h)
answer_to Done (HandedAnswer b0) h = absurd (both_ways false refl h)
answer_to Done (Refused b0) h = absurd (both_ways false refl h)
answer_to (Handle a0) Done h = absurd (both_ways false refl h)
answer_to (Handle a0) (Handle b0) h = ap Handle ((Decides-eqb a0 b0).0 h)
answer_to (Handle a0) (Truth b0) h = absurd (both_ways false refl h)
answer_to (Handle a0) (Int b0) h = absurd (both_ways false refl h)
answer_to (Handle a0) (Data b0) h = absurd (both_ways false refl h)
answer_to (Handle a0) (Wrote b0) h = absurd (both_ways false refl h)
answer_to (Handle a0) (Faulted b0) h = absurd (both_ways false refl h)
answer_to (Handle a0) (Names b0) h = absurd (both_ways false refl h)
answer_to (Handle a0) (Notes b0) h = absurd (both_ways false refl h)
answer_to (Handle a0) (Faults b0) h = absurd (both_ways false refl h)
answer_to (Handle a0) (StatAnswer b0) h = absurd (both_ways false refl h)
answer_to (Handle a0) (Job b0 b1) h = absurd (both_ways false refl h)
answer_to (Handle a0) AlreadyDone h = absurd (both_ways false refl h)
answer_to (Handle a0) (Prepared b0) h = absurd (both_ways false refl h)
answer_to (Handle a0) (OutAnswer b0) h = absurd (both_ways false refl h)
answer_to (Handle a0) (HandedAnswer b0) h = absurd (both_ways false refl h)
answer_to (Handle a0) (Refused b0) h = absurd (both_ways false refl h)
answer_to (Truth a0) Done h = absurd (both_ways false refl h)
answer_to (Truth a0) (Handle b0) h = absurd (both_ways false refl h)
answer_to (Truth a0) (Truth b0) h = ap Truth ((Decides-truth a0 b0).0 h)
answer_to (Truth a0) (Int b0) h = absurd (both_ways false refl h)
answer_to (Truth a0) (Data b0) h = absurd (both_ways false refl h)
answer_to (Truth a0) (Wrote b0) h = absurd (both_ways false refl h)
answer_to (Truth a0) (Faulted b0) h = absurd (both_ways false refl h)
answer_to (Truth a0) (Names b0) h = absurd (both_ways false refl h)
answer_to (Truth a0) (Notes b0) h = absurd (both_ways false refl h)
answer_to (Truth a0) (Faults b0) h = absurd (both_ways false refl h)
answer_to (Truth a0) (StatAnswer b0) h = absurd (both_ways false refl h)
answer_to (Truth a0) (Job b0 b1) h = absurd (both_ways false refl h)
answer_to (Truth a0) AlreadyDone h = absurd (both_ways false refl h)
answer_to (Truth a0) (Prepared b0) h = absurd (both_ways false refl h)
answer_to (Truth a0) (OutAnswer b0) h = absurd (both_ways false refl h)
answer_to (Truth a0) (HandedAnswer b0) h = absurd (both_ways false refl h)
answer_to (Truth a0) (Refused b0) h = absurd (both_ways false refl h)
answer_to (Int a0) Done h = absurd (both_ways false refl h)
answer_to (Int a0) (Handle b0) h = absurd (both_ways false refl h)
answer_to (Int a0) (Truth b0) h = absurd (both_ways false refl h)
answer_to (Int a0) (Int b0) h = ap Int ((Decides-int_eq a0 b0).0 h)
answer_to (Int a0) (Data b0) h = absurd (both_ways false refl h)
answer_to (Int a0) (Wrote b0) h = absurd (both_ways false refl h)
answer_to (Int a0) (Faulted b0) h = absurd (both_ways false refl h)
answer_to (Int a0) (Names b0) h = absurd (both_ways false refl h)
answer_to (Int a0) (Notes b0) h = absurd (both_ways false refl h)
answer_to (Int a0) (Faults b0) h = absurd (both_ways false refl h)
answer_to (Int a0) (StatAnswer b0) h = absurd (both_ways false refl h)
answer_to (Int a0) (Job b0 b1) h = absurd (both_ways false refl h)
answer_to (Int a0) AlreadyDone h = absurd (both_ways false refl h)
answer_to (Int a0) (Prepared b0) h = absurd (both_ways false refl h)
answer_to (Int a0) (OutAnswer b0) h = absurd (both_ways false refl h)
answer_to (Int a0) (HandedAnswer b0) h = absurd (both_ways false refl h)
answer_to (Int a0) (Refused b0) h = absurd (both_ways false refl h)
answer_to (Data a0) Done h = absurd (both_ways false refl h)
answer_to (Data a0) (Handle b0) h = absurd (both_ways false refl h)
answer_to (Data a0) (Truth b0) h = absurd (both_ways false refl h)
answer_to (Data a0) (Int b0) h = absurd (both_ways false refl h)
answer_to (Data a0) (Data b0) h = ap Data ((bytes_eq-Decides a0 b0).0 h)
answer_to (Data a0) (Wrote b0) h = absurd (both_ways false refl h)
answer_to (Data a0) (Faulted b0) h = absurd (both_ways false refl h)
answer_to (Data a0) (Names b0) h = absurd (both_ways false refl h)
answer_to (Data a0) (Notes b0) h = absurd (both_ways false refl h)
answer_to (Data a0) (Faults b0) h = absurd (both_ways false refl h)
answer_to (Data a0) (StatAnswer b0) h = absurd (both_ways false refl h)
answer_to (Data a0) (Job b0 b1) h = absurd (both_ways false refl h)
answer_to (Data a0) AlreadyDone h = absurd (both_ways false refl h)
answer_to (Data a0) (Prepared b0) h = absurd (both_ways false refl h)
answer_to (Data a0) (OutAnswer b0) h = absurd (both_ways false refl h)
answer_to (Data a0) (HandedAnswer b0) h = absurd (both_ways false refl h)
answer_to (Data a0) (Refused b0) h = absurd (both_ways false refl h)
answer_to (Wrote a0) Done h = absurd (both_ways false refl h)
answer_to (Wrote a0) (Handle b0) h = absurd (both_ways false refl h)
answer_to (Wrote a0) (Truth b0) h = absurd (both_ways false refl h)
answer_to (Wrote a0) (Int b0) h = absurd (both_ways false refl h)
answer_to (Wrote a0) (Data b0) h = absurd (both_ways false refl h)
answer_to (Wrote a0) (Wrote b0) h = ap Wrote ((Decides-eqb a0 b0).0 h)
answer_to (Wrote a0) (Faulted b0) h = absurd (both_ways false refl h)
answer_to (Wrote a0) (Names b0) h = absurd (both_ways false refl h)
answer_to (Wrote a0) (Notes b0) h = absurd (both_ways false refl h)
answer_to (Wrote a0) (Faults b0) h = absurd (both_ways false refl h)
answer_to (Wrote a0) (StatAnswer b0) h = absurd (both_ways false refl h)
answer_to (Wrote a0) (Job b0 b1) h = absurd (both_ways false refl h)
answer_to (Wrote a0) AlreadyDone h = absurd (both_ways false refl h)
answer_to (Wrote a0) (Prepared b0) h = absurd (both_ways false refl h)
answer_to (Wrote a0) (OutAnswer b0) h = absurd (both_ways false refl h)
answer_to (Wrote a0) (HandedAnswer b0) h = absurd (both_ways false refl h)
answer_to (Wrote a0) (Refused b0) h = absurd (both_ways false refl h)
answer_to (Faulted a0) Done h = absurd (both_ways false refl h)
answer_to (Faulted a0) (Handle b0) h = absurd (both_ways false refl h)
answer_to (Faulted a0) (Truth b0) h = absurd (both_ways false refl h)
answer_to (Faulted a0) (Int b0) h = absurd (both_ways false refl h)
answer_to (Faulted a0) (Data b0) h = absurd (both_ways false refl h)
answer_to (Faulted a0) (Wrote b0) h = absurd (both_ways false refl h)
answer_to (Faulted a0) (Faulted b0) h = ap Faulted ((Decides-fault a0 b0).0 h)
answer_to (Faulted a0) (Names b0) h = absurd (both_ways false refl h)
answer_to (Faulted a0) (Notes b0) h = absurd (both_ways false refl h)
answer_to (Faulted a0) (Faults b0) h = absurd (both_ways false refl h)
answer_to (Faulted a0) (StatAnswer b0) h = absurd (both_ways false refl h)
answer_to (Faulted a0) (Job b0 b1) h = absurd (both_ways false refl h)
answer_to (Faulted a0) AlreadyDone h = absurd (both_ways false refl h)
answer_to (Faulted a0) (Prepared b0) h = absurd (both_ways false refl h)
answer_to (Faulted a0) (OutAnswer b0) h = absurd (both_ways false refl h)
answer_to (Faulted a0) (HandedAnswer b0) h = absurd (both_ways false refl h)
answer_to (Faulted a0) (Refused b0) h = absurd (both_ways false refl h)
answer_to (Names a0) Done h = absurd (both_ways false refl h)
answer_to (Names a0) (Handle b0) h = absurd (both_ways false refl h)
answer_to (Names a0) (Truth b0) h = absurd (both_ways false refl h)
answer_to (Names a0) (Int b0) h = absurd (both_ways false refl h)
answer_to (Names a0) (Data b0) h = absurd (both_ways false refl h)
answer_to (Names a0) (Wrote b0) h = absurd (both_ways false refl h)
answer_to (Names a0) (Faulted b0) h = absurd (both_ways false refl h)
answer_to (Names a0) (Names b0) h = ap Names ((Decides-lists a0 b0).0 h)
answer_to (Names a0) (Notes b0) h = absurd (both_ways false refl h)
answer_to (Names a0) (Faults b0) h = absurd (both_ways false refl h)
answer_to (Names a0) (StatAnswer b0) h = absurd (both_ways false refl h)
answer_to (Names a0) (Job b0 b1) h = absurd (both_ways false refl h)
answer_to (Names a0) AlreadyDone h = absurd (both_ways false refl h)
answer_to (Names a0) (Prepared b0) h = absurd (both_ways false refl h)
answer_to (Names a0) (OutAnswer b0) h = absurd (both_ways false refl h)
answer_to (Names a0) (HandedAnswer b0) h = absurd (both_ways false refl h)
answer_to (Names a0) (Refused b0) h = absurd (both_ways false refl h)
answer_to (Notes a0) Done h = absurd (both_ways false refl h)
answer_to (Notes a0) (Handle b0) h = absurd (both_ways false refl h)
answer_to (Notes a0) (Truth b0) h = absurd (both_ways false refl h)
answer_to (Notes a0) (Int b0) h = absurd (both_ways false refl h)
answer_to (Notes a0) (Data b0) h = absurd (both_ways false refl h)
answer_to (Notes a0) (Wrote b0) h = absurd (both_ways false refl h)
answer_to (Notes a0) (Faulted b0) h = absurd (both_ways false refl h)
answer_to (Notes a0) (Names b0) h = absurd (both_ways false refl h)
answer_to (Notes a0) (Notes b0) h = ap Notes ((bytes_eq-Decides a0 b0).0 h)
answer_to (Notes a0) (Faults b0) h = absurd (both_ways false refl h)
answer_to (Notes a0) (StatAnswer b0) h = absurd (both_ways false refl h)
answer_to (Notes a0) (Job b0 b1) h = absurd (both_ways false refl h)
answer_to (Notes a0) AlreadyDone h = absurd (both_ways false refl h)
answer_to (Notes a0) (Prepared b0) h = absurd (both_ways false refl h)
answer_to (Notes a0) (OutAnswer b0) h = absurd (both_ways false refl h)
answer_to (Notes a0) (HandedAnswer b0) h = absurd (both_ways false refl h)
answer_to (Notes a0) (Refused b0) h = absurd (both_ways false refl h)
answer_to (Faults a0) Done h = absurd (both_ways false refl h)
answer_to (Faults a0) (Handle b0) h = absurd (both_ways false refl h)
answer_to (Faults a0) (Truth b0) h = absurd (both_ways false refl h)
answer_to (Faults a0) (Int b0) h = absurd (both_ways false refl h)
answer_to (Faults a0) (Data b0) h = absurd (both_ways false refl h)
answer_to (Faults a0) (Wrote b0) h = absurd (both_ways false refl h)
answer_to (Faults a0) (Faulted b0) h = absurd (both_ways false refl h)
answer_to (Faults a0) (Names b0) h = absurd (both_ways false refl h)
answer_to (Faults a0) (Notes b0) h = absurd (both_ways false refl h)
answer_to (Faults a0) (Faults b0) h = ap Faults ((Decides-failures a0 b0).0 h)
answer_to (Faults a0) (StatAnswer b0) h = absurd (both_ways false refl h)
answer_to (Faults a0) (Job b0 b1) h = absurd (both_ways false refl h)
answer_to (Faults a0) AlreadyDone h = absurd (both_ways false refl h)
answer_to (Faults a0) (Prepared b0) h = absurd (both_ways false refl h)
answer_to (Faults a0) (OutAnswer b0) h = absurd (both_ways false refl h)
answer_to (Faults a0) (HandedAnswer b0) h = absurd (both_ways false refl h)
answer_to (Faults a0) (Refused b0) h = absurd (both_ways false refl h)
answer_to (StatAnswer a0) Done h = absurd (both_ways false refl h)
answer_to (StatAnswer a0) (Handle b0) h = absurd (both_ways false refl h)
answer_to (StatAnswer a0) (Truth b0) h = absurd (both_ways false refl h)
answer_to (StatAnswer a0) (Int b0) h = absurd (both_ways false refl h)
answer_to (StatAnswer a0) (Data b0) h = absurd (both_ways false refl h)
answer_to (StatAnswer a0) (Wrote b0) h = absurd (both_ways false refl h)
answer_to (StatAnswer a0) (Faulted b0) h = absurd (both_ways false refl h)
answer_to (StatAnswer a0) (Names b0) h = absurd (both_ways false refl h)
answer_to (StatAnswer a0) (Notes b0) h = absurd (both_ways false refl h)
answer_to (StatAnswer a0) (Faults b0) h = absurd (both_ways false refl h)
answer_to (StatAnswer a0) (StatAnswer b0) h = ap StatAnswer ((Decides-stat a0 b0).0 h)
answer_to (StatAnswer a0) (Job b0 b1) h = absurd (both_ways false refl h)
answer_to (StatAnswer a0) AlreadyDone h = absurd (both_ways false refl h)
answer_to (StatAnswer a0) (Prepared b0) h = absurd (both_ways false refl h)
answer_to (StatAnswer a0) (OutAnswer b0) h = absurd (both_ways false refl h)
answer_to (StatAnswer a0) (HandedAnswer b0) h = absurd (both_ways false refl h)
answer_to (StatAnswer a0) (Refused b0) h = absurd (both_ways false refl h)
answer_to (Job a0 a1) Done h = absurd (both_ways false refl h)
answer_to (Job a0 a1) (Handle b0) h = absurd (both_ways false refl h)
answer_to (Job a0 a1) (Truth b0) h = absurd (both_ways false refl h)
answer_to (Job a0 a1) (Int b0) h = absurd (both_ways false refl h)
answer_to (Job a0 a1) (Data b0) h = absurd (both_ways false refl h)
answer_to (Job a0 a1) (Wrote b0) h = absurd (both_ways false refl h)
answer_to (Job a0 a1) (Faulted b0) h = absurd (both_ways false refl h)
answer_to (Job a0 a1) (Names b0) h = absurd (both_ways false refl h)
answer_to (Job a0 a1) (Notes b0) h = absurd (both_ways false refl h)
answer_to (Job a0 a1) (Faults b0) h = absurd (both_ways false refl h)
answer_to (Job a0 a1) (StatAnswer b0) h = absurd (both_ways false refl h)
answer_to (Job a0 a1) (Job b0 b1) h = let p = and_parts (nat_eq a0 b0) (same_work a1 b1) h in ap (λ x. Job x a1) ((Decides-eqb a0 b0).0 p.0)
    ∙ ap (λ x. Job b0 x) ((Decides-work a1 b1).0 p.1)
answer_to (Job a0 a1) AlreadyDone h = absurd (both_ways false refl h)
answer_to (Job a0 a1) (Prepared b0) h = absurd (both_ways false refl h)
answer_to (Job a0 a1) (OutAnswer b0) h = absurd (both_ways false refl h)
answer_to (Job a0 a1) (HandedAnswer b0) h = absurd (both_ways false refl h)
answer_to (Job a0 a1) (Refused b0) h = absurd (both_ways false refl h)
answer_to AlreadyDone Done h = absurd (both_ways false refl h)
answer_to AlreadyDone (Handle b0) h = absurd (both_ways false refl h)
answer_to AlreadyDone (Truth b0) h = absurd (both_ways false refl h)
answer_to AlreadyDone (Int b0) h = absurd (both_ways false refl h)
answer_to AlreadyDone (Data b0) h = absurd (both_ways false refl h)
answer_to AlreadyDone (Wrote b0) h = absurd (both_ways false refl h)
answer_to AlreadyDone (Faulted b0) h = absurd (both_ways false refl h)
answer_to AlreadyDone (Names b0) h = absurd (both_ways false refl h)
answer_to AlreadyDone (Notes b0) h = absurd (both_ways false refl h)
answer_to AlreadyDone (Faults b0) h = absurd (both_ways false refl h)
answer_to AlreadyDone (StatAnswer b0) h = absurd (both_ways false refl h)
answer_to AlreadyDone (Job b0 b1) h = absurd (both_ways false refl h)
answer_to AlreadyDone AlreadyDone h = refl
answer_to AlreadyDone (Prepared b0) h = absurd (both_ways false refl h)
answer_to AlreadyDone (OutAnswer b0) h = absurd (both_ways false refl h)
answer_to AlreadyDone (HandedAnswer b0) h = absurd (both_ways false refl h)
answer_to AlreadyDone (Refused b0) h = absurd (both_ways false refl h)
answer_to (Prepared a0) Done h = absurd (both_ways false refl h)
answer_to (Prepared a0) (Handle b0) h = absurd (both_ways false refl h)
answer_to (Prepared a0) (Truth b0) h = absurd (both_ways false refl h)
answer_to (Prepared a0) (Int b0) h = absurd (both_ways false refl h)
answer_to (Prepared a0) (Data b0) h = absurd (both_ways false refl h)
answer_to (Prepared a0) (Wrote b0) h = absurd (both_ways false refl h)
answer_to (Prepared a0) (Faulted b0) h = absurd (both_ways false refl h)
answer_to (Prepared a0) (Names b0) h = absurd (both_ways false refl h)
answer_to (Prepared a0) (Notes b0) h = absurd (both_ways false refl h)
answer_to (Prepared a0) (Faults b0) h = absurd (both_ways false refl h)
answer_to (Prepared a0) (StatAnswer b0) h = absurd (both_ways false refl h)
answer_to (Prepared a0) (Job b0 b1) h = absurd (both_ways false refl h)
answer_to (Prepared a0) AlreadyDone h = absurd (both_ways false refl h)
answer_to (Prepared a0) (Prepared b0) h = ap Prepared ((Decides-eqb a0 b0).0 h)
answer_to (Prepared a0) (OutAnswer b0) h = absurd (both_ways false refl h)
answer_to (Prepared a0) (HandedAnswer b0) h = absurd (both_ways false refl h)
answer_to (Prepared a0) (Refused b0) h = absurd (both_ways false refl h)
answer_to (OutAnswer a0) Done h = absurd (both_ways false refl h)
answer_to (OutAnswer a0) (Handle b0) h = absurd (both_ways false refl h)
answer_to (OutAnswer a0) (Truth b0) h = absurd (both_ways false refl h)
answer_to (OutAnswer a0) (Int b0) h = absurd (both_ways false refl h)
answer_to (OutAnswer a0) (Data b0) h = absurd (both_ways false refl h)
answer_to (OutAnswer a0) (Wrote b0) h = absurd (both_ways false refl h)
answer_to (OutAnswer a0) (Faulted b0) h = absurd (both_ways false refl h)
answer_to (OutAnswer a0) (Names b0) h = absurd (both_ways false refl h)
answer_to (OutAnswer a0) (Notes b0) h = absurd (both_ways false refl h)
answer_to (OutAnswer a0) (Faults b0) h = absurd (both_ways false refl h)
answer_to (OutAnswer a0) (StatAnswer b0) h = absurd (both_ways false refl h)
answer_to (OutAnswer a0) (Job b0 b1) h = absurd (both_ways false refl h)
answer_to (OutAnswer a0) AlreadyDone h = absurd (both_ways false refl h)
answer_to (OutAnswer a0) (Prepared b0) h = absurd (both_ways false refl h)
answer_to (OutAnswer a0) (OutAnswer b0) h = ap OutAnswer ((Decides-eqb a0 b0).0 h)
answer_to (OutAnswer a0) (HandedAnswer b0) h = absurd (both_ways false refl h)
answer_to (OutAnswer a0) (Refused b0) h = absurd (both_ways false refl h)
answer_to (HandedAnswer a0) Done h = absurd (both_ways false refl h)
answer_to (HandedAnswer a0) (Handle b0) h = absurd (both_ways false refl h)
answer_to (HandedAnswer a0) (Truth b0) h = absurd (both_ways false refl h)
answer_to (HandedAnswer a0) (Int b0) h = absurd (both_ways false refl h)
answer_to (HandedAnswer a0) (Data b0) h = absurd (both_ways false refl h)
answer_to (HandedAnswer a0) (Wrote b0) h = absurd (both_ways false refl h)
answer_to (HandedAnswer a0) (Faulted b0) h = absurd (both_ways false refl h)
answer_to (HandedAnswer a0) (Names b0) h = absurd (both_ways false refl h)
answer_to (HandedAnswer a0) (Notes b0) h = absurd (both_ways false refl h)
answer_to (HandedAnswer a0) (Faults b0) h = absurd (both_ways false refl h)
answer_to (HandedAnswer a0) (StatAnswer b0) h = absurd (both_ways false refl h)
answer_to (HandedAnswer a0) (Job b0 b1) h = absurd (both_ways false refl h)
answer_to (HandedAnswer a0) AlreadyDone h = absurd (both_ways false refl h)
answer_to (HandedAnswer a0) (Prepared b0) h = absurd (both_ways false refl h)
answer_to (HandedAnswer a0) (OutAnswer b0) h = absurd (both_ways false refl h)
answer_to (HandedAnswer a0) (HandedAnswer b0) h = ap HandedAnswer ((Decides-handed a0 b0).0 h)
answer_to (HandedAnswer a0) (Refused b0) h = absurd (both_ways false refl h)
answer_to (Refused a0) Done h = absurd (both_ways false refl h)
answer_to (Refused a0) (Handle b0) h = absurd (both_ways false refl h)
answer_to (Refused a0) (Truth b0) h = absurd (both_ways false refl h)
answer_to (Refused a0) (Int b0) h = absurd (both_ways false refl h)
answer_to (Refused a0) (Data b0) h = absurd (both_ways false refl h)
answer_to (Refused a0) (Wrote b0) h = absurd (both_ways false refl h)
answer_to (Refused a0) (Faulted b0) h = absurd (both_ways false refl h)
answer_to (Refused a0) (Names b0) h = absurd (both_ways false refl h)
answer_to (Refused a0) (Notes b0) h = absurd (both_ways false refl h)
answer_to (Refused a0) (Faults b0) h = absurd (both_ways false refl h)
answer_to (Refused a0) (StatAnswer b0) h = absurd (both_ways false refl h)
answer_to (Refused a0) (Job b0 b1) h = absurd (both_ways false refl h)
answer_to (Refused a0) AlreadyDone h = absurd (both_ways false refl h)
answer_to (Refused a0) (Prepared b0) h = absurd (both_ways false refl h)
answer_to (Refused a0) (OutAnswer b0) h = absurd (both_ways false refl h)
answer_to (Refused a0) (HandedAnswer b0) h = absurd (both_ways false refl h)
answer_to (Refused a0) (Refused b0) h = ap Refused ((Decides-refusal a0 b0).0 h)

answer_self : (a : Answer) → same_answer a a ≡ true
answer_self Done = refl
answer_self (Handle a0) = (Decides-eqb a0 a0).1 refl
answer_self (Truth a0) = (Decides-truth a0 a0).1 refl
answer_self (Int a0) = (Decides-int_eq a0 a0).1 refl
answer_self (Data a0) = (bytes_eq-Decides a0 a0).1 refl
answer_self (Wrote a0) = (Decides-eqb a0 a0).1 refl
answer_self (Faulted a0) = (Decides-fault a0 a0).1 refl
answer_self (Names a0) = (Decides-lists a0 a0).1 refl
answer_self (Notes a0) = (bytes_eq-Decides a0 a0).1 refl
answer_self (Faults a0) = (Decides-failures a0 a0).1 refl
answer_self (StatAnswer a0) = (Decides-stat a0 a0).1 refl
answer_self (Job a0 a1) = and_from (nat_eq a0 a0) (same_work a1 a1) ((Decides-eqb a0 a0).1 refl) ((Decides-work a1 a1).1 refl)
answer_self AlreadyDone = refl
answer_self (Prepared a0) = (Decides-eqb a0 a0).1 refl
answer_self (OutAnswer a0) = (Decides-eqb a0 a0).1 refl
answer_self (HandedAnswer a0) = (Decides-handed a0 a0).1 refl
answer_self (Refused a0) = (Decides-refusal a0 a0).1 refl

pub Decides-answer : (a b : Answer) → Decides (same_answer a b) (a ≡ b)
Decides-answer a b = (answer_to a b, λ e. subst (λ x. same_answer a x ≡ true) e (answer_self a))
