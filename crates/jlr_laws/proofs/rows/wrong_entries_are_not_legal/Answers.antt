use Rattle.std.proofs.Common.{refl, lit≤}
use Rattle.jlr_laws.specs.WrongEntries.{cleared_by_program, cleared_is_pended, closed_is_out, enqueued_by_program, first_weak_cleared}
use Rattle.jlr_laws.specs.WrongEntries.{full_with_room, full_without_collection, gc_keeping_all, handler_appends_again, held_soft_cleared}
use Rattle.jlr_laws.specs.WrongEntries.{held_soft_gives_null, one_dropped, rid_used_again, second_weak_kept, soft_chain_dropped}
use Rattle.jlr_laws.specs.WrongEntries.{soft_chain_kept, taken_again, entries_taken_by_cleaner, weak_dropped}
use Rattle.jlr_laws.proofs.RowTest.{never_legal}
use Rattle.jlr_laws.proofs.rows.wrong_entries_are_not_legal.Goals as goal

pub returns-clause-gc_must_clear : goal.returns-clause-gc_must_clear
returns-clause-gc_must_clear c = never_legal 16 1 16 weak_dropped gc_keeping_all (lit≤ tt) (lit≤ tt) refl refl

pub returns-clause-both_weak_are_cleared : goal.returns-clause-both_weak_are_cleared
returns-clause-both_weak_are_cleared c = never_legal 16 1 16 first_weak_cleared second_weak_kept (lit≤ tt) (lit≤ tt) refl refl

pub returns-clause-held_soft_is_not_cleared_alone : goal.returns-clause-held_soft_is_not_cleared_alone
returns-clause-held_soft_is_not_cleared_alone c = never_legal 16 1 16 soft_chain_dropped held_soft_cleared (lit≤ tt) (lit≤ tt) refl refl

pub returns-clause-kept_soft_gives_its_referent : goal.returns-clause-kept_soft_gives_its_referent
returns-clause-kept_soft_gives_its_referent c = never_legal 16 1 16 soft_chain_kept held_soft_gives_null (lit≤ tt) (lit≤ tt) refl refl

pub returns-clause-cleared_by_program_is_not_pended : goal.returns-clause-cleared_by_program_is_not_pended
returns-clause-cleared_by_program_is_not_pended c = never_legal 16 1 16 cleared_by_program cleared_is_pended (lit≤ tt) (lit≤ tt) refl refl

pub returns-clause-handler_does_not_append_again : goal.returns-clause-handler_does_not_append_again
returns-clause-handler_does_not_append_again c = never_legal 16 1 16 enqueued_by_program handler_appends_again (lit≤ tt) (lit≤ tt) refl refl

pub returns-clause-an_action_is_taken_up_once : goal.returns-clause-an_action_is_taken_up_once
returns-clause-an_action_is_taken_up_once c = never_legal 16 1 16 entries_taken_by_cleaner taken_again (lit≤ tt) (lit≤ tt) refl refl

pub returns-clause-a_closed_guard_gives_nothing : goal.returns-clause-a_closed_guard_gives_nothing
returns-clause-a_closed_guard_gives_nothing c = never_legal 16 1 16 rid_used_again closed_is_out (lit≤ tt) (lit≤ tt) refl refl

pub returns-clause-a_full_heap_needs_a_collection : goal.returns-clause-a_full_heap_needs_a_collection
returns-clause-a_full_heap_needs_a_collection c = never_legal 2 1 1 one_dropped full_without_collection (lit≤ tt) (lit≤ tt) refl refl

pub returns-clause-a_full_heap_has_no_room : goal.returns-clause-a_full_heap_has_no_room
returns-clause-a_full_heap_has_no_room c = never_legal 2 1 1 one_dropped full_with_room (lit≤ tt) (lit≤ tt) refl refl
