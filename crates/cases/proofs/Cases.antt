-- The worked cases hold: the closed ones by computation, both sides being computed and compared; the quantified ones since no level is
-- counted where there are no halfspace words and no ball words, and there are no levels where there are no bits.
use Prim.Native.Nat.{ℕ, zero, suc, ◌≤◌}
use mathlib.Core.Path.{◌≡◌, refl, sym, ap, ◌∙◌}
use mathlib.Core.List.{List, map}
use native.Mathlib.Omega.{arith}
use borrow.Author.Tests.{eq-eqb}
use lib.ListN.{length}
use Rattle.lemmas.specs.Sums.{sum, total, product, every}
use Rattle.universe.specs.declared.Universe.{Universe}
use Rattle.universe.specs.Lent.{overwritten}
use Rattle.universe.specs.Rounds.{round, rounds}
use Rattle.universe.specs.Universe.{universe_refusal, equal_bits, bits_along, levels, order, axis_at, halvings, blocks_along, block_side}
use Rattle.universe.specs.Block.{whole_block}
use Rattle.universe.specs.Voxel.{voxel_refusal, window_refusal, path_from}
use Rattle.universe.specs.Room.{blocks_at, inner_blocks_at, level_count, room, room_answer}
use Rattle.universe.proofs.EqualBits.{levels_product}
use Rattle.bintree.specs.Shape.{symbols, size}
use Rattle.bintree.specs.Reading.{read_leaf, with_high, read_halves, read_at, exactly, expression, expression_refusal}
use Rattle.bintree.specs.Answers.{done_writing, written_answer, written_buffer}
use Rattle.bintree.specs.Merging.{join, merged, is_pair, onward, held_in, held_after, largest, most_held, merge_answer, merge_buffer}
use Rattle.bintree.specs.Parts.{part, colour_at, colour_answer}
use Rattle.bintree.specs.Counts.{volume_from, voxels_from}
use Rattle.bintree.specs.Verdicts.{first_frame, last_frame, voxels_in, verdict, numbers_answer}
use Rattle.bintree.proofs.Answers.{written_all}
use Rattle.csg.specs.Halfspace.{within_limits, rows_refusal, centre_value, colour_at_centre, least, greatest, mark_over}
use Rattle.csg.specs.Ball.{ball_within, balls_refusal}
use Rattle.csg.specs.Surfaces.{Surfaces}
use Rattle.csg.specs.Tree.{Tree, plain, reversal}
use Rattle.csg.specs.Words.{meaning, step, finish, run, parse, tree_refusal, tree_of, count_words}
use Rattle.csg.specs.Marks.{union_mark, intersection_mark, union_colour, intersection_colour}
use Rattle.csg.specs.Marks.{surface_mark, surface_colour, side_mark, side_colour, plain_mark, plain_colour}
use Rattle.csg.specs.Raw.{examine, raw}
use Rattle.csg.proofs.Raw.{one_symbol}
use Rattle.convert.specs.Answers.{one_tree_checks, two_trees_checks, clearance_checks, raw_of_one, raw_of_two, merged_of_one, merged_of_two}
use Rattle.convert.specs.Answers.{raw_of_one_answer, raw_of_one_buffer, merged_of_one_answer, merged_of_one_buffer}
use Rattle.convert.specs.Answers.{raw_of_two_answer, raw_of_two_buffer, merged_of_two_answer, clearance_answer, clearance_buffer}
use Rattle.cases.specs.Cases.{closed, cases, Every, NoLeavesRoom, NoBitsRoom, NoBitsOne, NoBitsTwo, universe, done_room}

computed : map (λ c. c.computed) closed ≡ map (λ c. c.expected) closed
unfolding
    sum total product every overwritten
    round rounds universe_refusal equal_bits bits_along levels order axis_at halvings blocks_along block_side
    voxel_refusal window_refusal path_from blocks_at inner_blocks_at level_count room room_answer
    symbols size read_leaf with_high read_halves read_at exactly expression expression_refusal written_answer written_buffer join merged
    is_pair onward held_in held_after largest most_held merge_answer merge_buffer
    part colour_at colour_answer volume_from voxels_from first_frame last_frame voxels_in verdict numbers_answer
    within_limits rows_refusal centre_value colour_at_centre least greatest mark_over ball_within balls_refusal plain reversal
    meaning step finish run parse tree_refusal tree_of count_words
    union_mark intersection_mark union_colour intersection_colour surface_mark surface_colour side_mark side_colour plain_mark plain_colour examine
    one_tree_checks two_trees_checks clearance_checks raw_of_one raw_of_two merged_of_one merged_of_two
    raw_of_one_answer raw_of_one_buffer merged_of_one_answer merged_of_one_buffer raw_of_two_answer raw_of_two_buffer clearance_answer clearance_buffer
computed = refl

-- ---- room

room_is : (u : Universe) (leaves balls n : ℕ) → universe_refusal u ≡ 0 → room u leaves balls ≡ n → room_answer u leaves balls ≡ done_room n
unfolding room_answer
room_is u leaves balls n z e = rw (eq-eqb (universe_refusal u) 0 z, e)

nothing_counted : (u : Universe) (n : ℕ) → sum n (level_count u 0 0) ≡ 0
unfolding sum level_count
nothing_counted u zero = refl
nothing_counted u (suc n) = omega (arith, nothing_counted u n)

no_leaves : NoLeavesRoom
unfolding room
no_leaves u z = room_is u 0 0 1 z (omega (arith, nothing_counted u (levels u)))

no_levels : (d : ℕ) → levels (universe d 0) ≡ 0
no_levels d = omega (arith, levels_product d 0 (omega arith))

no_bits_room : NoBitsRoom
unfolding room sum
no_bits_room d leaves balls z = room_is (universe d 0) leaves balls 1 z (rw (no_levels d))

-- ---- one symbol

module _ (d : ℕ) (surfaces : Surfaces) (t : Tree) where
  one_raw : length (symbols (raw (universe d 0) surfaces t)) ≡ 1
  unfolding symbols
  one_raw = rw (no_levels d, (one_symbol surfaces t (whole_block (universe d 0))).1)

  one_merged : length (symbols (merged (raw (universe d 0) surfaces t))) ≡ 1
  unfolding symbols merged
  one_merged = rw (no_levels d, (one_symbol surfaces t (whole_block (universe d 0))).1)

one_written : (n : ℕ) (out written : List ℕ) → n ≡ 0 → 1 ≤ length out → length written ≡ 1 → written_answer n out written ≡ done_writing 1
one_written n out written z h e = sym (written_all n out written z (omega (arith, e))) ∙ ap done_writing e

no_bits_one : NoBitsOne
unfolding raw_of_one_answer merged_of_one_answer raw_of_one merged_of_one
no_bits_one d surfaces words out z h =
    let t = tree_of _ words in
    (one_written _ out _ z h (one_raw d surfaces t), one_written _ out _ z h (one_merged d surfaces t))

no_bits_two : NoBitsTwo
unfolding raw_of_two_answer merged_of_two_answer raw_of_two merged_of_two
no_bits_two d surfaces first second out z h =
    (one_written _ out _ z h (one_raw d surfaces _), one_written _ out _ z h (one_merged d surfaces _))

pub cases_hold : Every cases
cases_hold = (computed, (no_leaves, (no_bits_room, (no_bits_one, (no_bits_two, tt)))))
