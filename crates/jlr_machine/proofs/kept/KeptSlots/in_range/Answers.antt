use Rattle.std.proofs.Common.{◌≤◌, ◌^◌, ◌++◌, length, subst, arith}
use Rattle.std.specs.List.{AllByRecursion}
use Rattle.std.proofs.lemmas.List.Elements.{All-append, All-from_recursion, recursion_from_All}
use Rattle.jlr_sets.specs.SlotSets.{slots_of, IsSlotNumber}
use Rattle.jlr_machine.proofs.Numbers.{all_numbers}
use Rattle.jlr_machine.proofs.kept.KeptSlots.in_range.Goals as goal

pub returns : goal.returns
returns c =
    let places = c.self.inside.set in
    let strays = c.self.inside.strays.items in
    let few : length places ≤ 2 ^ 32 = omega (arith, c.in_range.ensures) in
    let others = subst (λ l. AllByRecursion IsSlotNumber l) c.as_slice.ensures.value c.numbers_in_range.ensures in
    let all = All-append IsSlotNumber (slots_of places) strays (all_numbers places few) (All-from_recursion IsSlotNumber strays others) in
    subst (λ l. AllByRecursion IsSlotNumber l) c.self.view_is (recursion_from_All IsSlotNumber (slots_of places ++ strays) all)
