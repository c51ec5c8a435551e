-- What the functions of src/lib.rt answer and leave: one tree over the whole universe, the expression's, is swept; it is written where it fits, and it is
-- no longer than the expression. Each law takes its premises in the form that code leaves them.
use mathlib.Core.Path.{◌≡◌, refl, sym, ap, ap₂, subst, ◌∙◌}
use mathlib.Core.List.{List, [], ◌∷◌}
use Prim.Native.Nat.{ℕ, ◌-◌, ◌≤◌}
use native.Mathlib.Omega.{arith}
use lib.ListN.{length, take, replicate}
use Rattle.std.proofs.lemmas.List.{take-replicate}
use lib.Seq.{sets}
use borrow.Author.Rules.{rules}
use borrow.Author.Tests.{ne_eqb}
use Rattle.std.specs.Prelude.{Ok, Err, unwrap_or}
use Rattle.universe.specs.declared.Universe.{Universe}
use Rattle.universe.specs.declared.refusal.Unwritten.{Unwritten}
use Rattle.universe.specs.Told.{number_unwritten}
use Rattle.universe.specs.Universe.{universe_refusal, levels, order}
use Rattle.universe.specs.Questions.{levels_answer, axes_left, without_answer}
use Rattle.universe.proofs.Telling.{unwritten-not_zero}
use Rattle.universe.proofs.Questions.{OneOf, one_of, levels_told, accepted_one}
use Rattle.universe.proofs.Universes.{accepted, levels_few}
use Rattle.bintree.specs.Told.{writing_told}
use Rattle.bintree.specs.Shape.{symbols, size}
use Rattle.bintree.specs.Reading.{read_at, expression_refusal}
use Rattle.bintree.specs.Merging.{merged}
use Rattle.bintree.specs.Walks.{noted, laid}
use Rattle.bintree.specs.Answers.{of_shape, written_answer}
use Rattle.bintree.proofs.Shape.{length_symbols}
use Rattle.bintree.proofs.Reading.{expression_at_lem, accepted_shape}
use Rattle.bintree.proofs.Lays.{laid_noted}
use Rattle.sweep.specs.Told.{swept_told}
use Rattle.sweep.specs.declared.block.Piece.{Piece}
use Rattle.sweep.specs.declared.block.Sweep.{Sweep}
use Rattle.sweep.specs.Sweeping.{swept}
use Rattle.sweep.specs.Places.{most_places, total, swept_trees, Begins, Stand, more, slots_for, order_left, Sweeping, swept_block, piece_of}
use Rattle.sweep.specs.Places as places
use Rattle.sweep.specs.Answers.{Ready, swept_refusal, swept_shape, swept_symbols, of_universe, swept_answer}
use Rattle.sweep.proofs.Sweeping.{merged_swept_size}
use Rattle.sweep.proofs.Trees.{stand_trees, unions_one}
use Rattle.sweep.proofs.Lists.{held_written}
use Rattle.sweep.proofs.Suffices.{suffices, order_left_lem}

pub zeros_first : (n : ℕ) → 1 ≤ n → take {A = ℕ} 1 (replicate n 0) ≡ 0 ∷ []
zeros_first n h = take-replicate 1 n 0 h

-- ---- an expression that can be swept

module _ {u : Universe} {s : List ℕ} {axis : ℕ} (r : Ready u s axis) where
  one : OneOf u axis
  one = one_of u axis r.one

  pub ready_some : 1 ≤ axis
  ready_some = one.some

  written_is : swept_symbols u s axis ≡ symbols (swept_shape u axis r.shape)
  written_is = ap (λ x. of_shape x [] (λ a. symbols (swept_shape u axis a))) r.reads

  written_length : length (swept_symbols u s axis) ≡ size (swept_shape u axis r.shape)
  written_length = ap length written_is ∙ length_symbols (swept_shape u axis r.shape)

  -- THEOREM: what is written is no longer than the expression
  pub no_longer : length (swept_symbols u s axis) ≤ length s
  no_longer =
      omega (arith, written_length, merged_swept_size (order u) (axis - 1) r.shape, (expression_at_lem u s r.shape r.reads).1)

  -- ---- `write_swept`: the expression is the one tree over the whole universe

  module _ (work : List ℕ) (sweep : Sweep) {count : ℕ} (long : most_places ≤ length work) (b : take 1 work ≡ 0 ∷ [])
      (a : sweep.expression.now ≡ s) (e : sweep.axes.now ≡ axes_left u)
      (d : sweep.axis ≡ axis - 1) (f : count ≡ levels_answer u) where
    all_levels : count ≡ levels u
    all_levels = levels_told u refl one.fine f

    begins : Begins sweep.expression.now count 0 r.shape
    begins = record { is = ap₂ (λ l n. read_at l n 0) a all_levels ∙ (expression_at_lem u s r.shape r.reads).0 }

    stand : Stand sweep.expression.now count (take 1 work) (r.shape ∷ [])
    stand = subst (λ l. Stand sweep.expression.now count l (r.shape ∷ [])) (sym b) (more begins places.none)

    whole_order : order_left sweep.axes.now count ≡ order u
    whole_order = ap₂ order_left e all_levels ∙ order_left_lem u one.fine

    pub whole_asks : Sweeping sweep count work 1 0
    unfolding total
    whole_asks = record {
      few = omega (arith, all_levels, levels_few u (accepted u one.fine));
      some = omega arith;
      trees = r.shape ∷ [];
      stand = stand;
      fits =
          let room = suffices u one.fine (axis - 1) (omega (arith, one.some, one.few)) in
          omega (arith, room, ap₂ (λ o k. slots_for o k 1) whole_order d);
      short = omega (arith, (expression_at_lem u s r.shape r.reads).1, ap length a);
    }

    whole_shape_lem : swept_block sweep count work 1 ≡ swept_shape u axis r.shape
    whole_shape_lem =
        ap₂ (λ o ts. swept_trees o sweep.axis ts) whole_order (stand_trees stand)
        ∙ ap₂ (λ k t. merged (swept (order u) k t)) d (unions_one r.shape)

    module _ {piece : Piece} (p : piece ≡ piece_of 0 (swept_block sweep count work 1)) where
      pub whole_length : piece.end ≡ length (swept_symbols u s axis)
      whole_length = omega (arith, ap (λ (x : Piece). x.end) p, ap size whole_shape_lem, written_length)

      pub whole_written : (out first second : List ℕ) {symbol : ℕ} → symbol ≡ unwrap_or piece.held 0 →
          first ≡ laid out 0 (swept_block sweep count work 1) → second ≡ noted first 0 symbol → second ≡ sets out 0 (swept_symbols u s axis)
      whole_written out first second x y z =
          z
          ∙ ap₂ (λ l h. noted l 0 h) y
          (x ∙ ap (λ (q : Piece). unwrap_or q.held 0) p ∙ held_written (swept_block sweep count work 1))
          ∙ laid_noted out 0 (swept_block sweep count work 1)
          ∙ ap (λ t. sets out 0 (symbols t)) whole_shape_lem
          ∙ ap (sets out 0) (sym written_is)

-- ---- what is accepted can be swept

module _ (u : Universe) (s : List ℕ) (axis : ℕ) (e : 0 ≡ universe_refusal (without_answer u axis)) where
  pub whole_fine : universe_refusal u ≡ 0
  whole_fine = (one_of u axis (accepted_one u axis (sym e))).fine

  pub sweepable : 0 ≡ expression_refusal u s → Ready u s axis
  sweepable f = let a = accepted_shape u s (sym f) in record { one = accepted_one u axis (sym e); shape = a.0; reads = a.1 }

-- ---- `sweep_along`: what a call that writes tells, with the universe of what it has written

module _ (u : Universe) (s : List ℕ) (axis : ℕ) (out : List ℕ) where
  pub along_refused : (v : Unwritten) → writing_told (Err v) ≡ written_answer (swept_refusal u s axis) out (swept_symbols u s axis) →
      swept_told (Err v) ≡ swept_answer u s axis out
  unfolding swept_answer
  along_refused v e = three_zeros ∙ ap (of_universe (without_answer u axis)) e
    where
      three_zeros : swept_told (Err v) ≡ of_universe (without_answer u axis) (writing_told (Err v))
      three_zeros = rw (ne_eqb (number_unwritten v) 0 (unwritten-not_zero v))

  pub along_done : {below : Universe} {n : ℕ} → below ≡ without_answer u axis →
      writing_told (Ok n) ≡ written_answer (swept_refusal u s axis) out (swept_symbols u s axis) →
      swept_told (Ok (record { universe = below; length = n })) ≡ swept_answer u s axis out
  unfolding swept_answer
  along_done f e = ap₂ of_universe f e

pub ruleset write_laws = (rules, ready_some, zeros_first, whole_asks, whole_length, whole_written)
