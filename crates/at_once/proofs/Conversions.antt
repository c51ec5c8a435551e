-- The conversions over codes: where no check refuses, the codes of both trees are loaded, and the shape that is written of the whole universe is that of
-- their raw expression, or the merged one of it. Where it is written twice, the first time leaves the codes' room as long.
use Prim.Native.Nat.{ℕ, suc, ◌+◌, ◌*◌, ◌/◌, ◌%◌, ◌^◌, ◌≤◌, ◌<◌}
use mathlib.Core.Path.{◌≡◌, refl, sym, ap, ap₂, ◌∙◌, subst}
use mathlib.Core.Bool.{Bool, true, false}
use mathlib.Core.List.{List}
use native.Mathlib.Omega.{arith}
use native.Mathlib.Nat.{mul-le-mul, mul-le-mul_right}
use lib.IntN.{ℤ, pos}
use lib.ListN.{length, replicate, length-replicate}
use lib.Pow.{pow_mono}
use lib.Seq.{sets}
use borrow.Author.Tests.{eq-eqb}
use Rattle.std.specs.Prelude.{Result, Ok, Err}
use Rattle.std.specs.Result.{result_unwrap_or}
use Rattle.universe.specs.declared.refusal.Refusal.{Refusal}
use Rattle.universe.specs.Room.{room, room_answer}
use Rattle.universe.specs.Told.{RoomAnswer, room_told}
use Rattle.universe.proofs.Telling.{number-not_zero}
use Rattle.universe.specs.declared.Universe.{Universe}
use Rattle.universe.specs.declared.Block.{Block}
use Rattle.universe.specs.Universe.{most_axes, most_levels, universe_refusal, levels}
use Rattle.universe.specs.Questions.{levels_answer}
use Rattle.universe.specs.Block.{Given, first, whole_block}
use Rattle.universe.proofs.Universes.{accepted, levels_few}
use Rattle.universe.proofs.Questions.{levels_told}
use Rattle.bintree.specs.Shape.{symbols}
use Rattle.bintree.specs.Walks.{noted}
use Rattle.bintree.proofs.Shape.{length_symbols}
use Rattle.bintree.proofs.Lays.{laid_noted}
use Rattle.csg.specs.Halfspace.{most_rows}
use Rattle.csg.specs.Surfaces.{Surfaces, named}
use Rattle.csg.specs.Tree.{Tree, Plain}
use Rattle.csg.specs.Words.{most_words, tree_of}
use Rattle.csg.specs.Marks.{tree_colour}
use Rattle.csg.specs.Raw.{raw, both}
use Rattle.csg.proofs.Words.{accepted_length}
use Rattle.convert.specs.Blocks.{Ready, block_left, whole_sides}
use Rattle.convert.specs.Shapes.{shaped}
use Rattle.convert.specs.Answers.{two_trees_refusal, written_of_two}
use Rattle.convert.proofs.Blocks.{whole_standing, whole_is}
use Rattle.masks.specs.Block.{voxel_at}
use Rattle.masks.specs.Shapes.{voxel_shape}
use Rattle.masks.proofs.Block.{left_whole}
use Rattle.masks.proofs.Shapes.{examined_voxels}
use Rattle.pruned.specs.Left.{all_colour}
use Rattle.pruned.specs.Nodes.{two, most_shapes}
use Rattle.pruned.proofs.Laying.{unpacked}
use Rattle.pruned.specs.Looked.{examine_all}
use Rattle.pruned.proofs.Looked.{two_stand, examine_all_lem}
use Rattle.pruned.proofs.Loads.{words_carried}
use Rattle.pruned.proofs.Steps.{rows_few, rows_small, balls_few}
use Rattle.pruned.proofs.Conversions.{all_accepted}
use Rattle.at_once.specs.Words.{Tabled}
use Rattle.at_once.specs.Counting.{BlockJob}
use Rattle.at_once.specs.Whole.{most_codes, both_trees, BothJob, BothLoaded}
use Rattle.at_once.specs.Merged.{shape_over, LaidShape, AtPlace}
use Rattle.at_once.specs.Raw.{raw_over, WrittenShape}
use Rattle.at_once.specs.Conversions.{written_over, CodesReady, FewReady}
use Rattle.at_once.specs.Moves.{ValuesAt}
use Rattle.at_once.proofs.Moving.{begun_values}
use Rattle.at_once.proofs.Layings.{shape_agree}

-- the room question's answer, or 0 where it refuses
pub room_answered : (u : Universe) (leaves balls : ℕ) → universe_refusal u ≡ 0 → (a : Result ℕ Refusal) → room_told a ≡ room_answer u leaves balls →
    result_unwrap_or a 0 ≡ room u leaves balls
unfolding room_answer
room_answered u leaves balls z a e = by a (e ∙ rw (eq-eqb (universe_refusal u) 0 z))
  where
    by : (a : Result ℕ Refusal) → room_told a ≡ record { refusal = 0; symbols = room u leaves balls } → result_unwrap_or a 0 ≡ room u leaves balls
    by (Ok k) e = ap (λ (x : RoomAnswer). x.symbols) e
    by (Err r) e = absurd (number-not_zero r (ap (λ (x : RoomAnswer). x.refusal) e))

-- ---- the checks, and local room for codes
module _ {u : Universe} {surfaces : Surfaces} {words₁ words₂ : List ℕ} where
  pub all_ready : {n : ℕ} → n ≡ two_trees_refusal u surfaces words₁ words₂ → n ≡ 0 → Ready u surfaces words₁ words₂
  all_ready e z =
      let a = all_accepted u surfaces words₁ words₂ (sym e ∙ z) in
      record {
        accepted_universe = a.0.accepted_universe;
        accepted_rows = a.0.accepted_rows;
        accepted_balls = a.0.accepted_balls;
        accepted_first = a.1.0;
        accepted_second = a.1.1;
      }

  module _ (r : Ready u surfaces words₁ words₂) where
    abbrev count : ℕ
    count = length words₁ + length words₂

    pub words_few : count ≤ 2 * most_words
    words_few = omega (arith, accepted_length (named surfaces) words₁ r.accepted_first, accepted_length (named surfaces) words₂ r.accepted_second)

    levels_most : levels u ≤ most_levels
    levels_most = levels_few u (accepted u r.accepted_universe)

    codes_most : (levels u + 1) * count ≤ most_codes
    codes_most = let few : levels u + 1 ≤ suc most_levels = omega (arith, levels_most) in mul-le-mul few words_few

    pub most_ready : FewReady most_codes u surfaces words₁ words₂
    most_ready = record { ready = r; few = codes_most }

    module _ {left : ℕ} (l : left ≡ levels_answer u) where
      left_is : left ≡ levels u
      left_is = levels_told u refl r.accepted_universe l

      pub levels_fit : left + 1 < 2 ^ 64
      levels_fit = omega (arith, left_is, levels_most)

      pub codes_fit : (left + 1) * count < 2 ^ 64
      codes_fit = rw left_is (omega (arith, codes_most))

      pub few_ready : {most : ℕ} → (left + 1) * count ≤ most → FewReady most u surfaces words₁ words₂
      few_ready h = record { ready = r; few = rw left_is at h }

  pub ready_again : {codes codes' : List ℕ} → CodesReady u surfaces words₁ words₂ codes → length codes' ≡ length codes →
      CodesReady u surfaces words₁ words₂ codes'
  ready_again m e = record { ready = m.ready; enough = omega (arith, m.enough); bounded = omega (arith, m.bounded) }

-- ---- the whole universe
module _ {u : Universe} {surfaces : Surfaces} {words₁ words₂ codes : List ℕ} (m : CodesReady u surfaces words₁ words₂ codes) where
  abbrev e : universe_refusal u ≡ 0
  e = m.ready.accepted_universe

  abbrev s : Tree
  s = tree_of (named surfaces) words₁

  abbrev t : Tree
  t = tree_of (named surfaces) words₂

  abbrev total : ℕ
  total = length words₁ + length words₂

  once : total ≤ (levels u + 1) * total
  once = let h : 1 * total ≤ (levels u + 1) * total = mul-le-mul_right total (omega arith) in omega arith

  pub both_job : {starts : List ℕ} → length starts ≡ most_shapes →
      BothJob surfaces.rows words₁ words₂ codes starts (replicate {A = ℤ} most_rows (pos 0))
  both_job shelf =
      record {
        names = named surfaces;
        rows_are = refl;
        small = rows_small {u = u} (record { accepted_universe = e; accepted_rows = m.ready.accepted_rows; accepted_balls = m.ready.accepted_balls });
        few_rows = rows_few u surfaces.rows m.ready.accepted_rows;
        few_balls = balls_few u surfaces.balls m.ready.accepted_balls;
        accepted_first = m.ready.accepted_first;
        accepted_second = m.ready.accepted_second;
        inside = omega (arith, once, m.enough);
        bounded = omega (arith, m.bounded);
        starts_long = shelf;
        values_long = length-replicate {A = ℤ} most_rows (pos 0);
      }

  module _ {left : ℕ} (l : left ≡ levels_answer u) where
    all_left : left ≡ levels u
    all_left = levels_told u refl e l

    block_is : block_left u left (replicate most_axes 0) ≡ whole_block u
    block_is = ap (λ (n : ℕ). block_left u n (replicate most_axes 0)) all_left ∙ whole_is u

    pub whole_place : AtPlace left 0
    whole_place =
        record {
          fits = omega (arith, pow_mono {i = suc left} {j = suc most_levels} (omega (arith, all_left, levels_few u (accepted u e))));
        }

    module _ {table lengths side codes₁ starts starts₁ : List ℕ} {values₁ : List ℤ} (shelf : length starts ≡ most_shapes) (tabled : Tabled u table lengths)
        (sides : side ≡ whole_sides u) (loaded : BothLoaded {codes = codes} {starts = starts} (both_job {starts = starts} shelf) codes₁ starts₁ values₁) where
      pub whole_values : ValuesAt surfaces.rows (replicate most_axes 0) codes₁ 0 total values₁ (replicate most_rows 0) 0
      whole_values = begun_values loaded.begun

      pub whole_job : BlockJob surfaces u.axes table lengths (replicate most_axes 0) side left codes₁ 0 total (left + 1)
      unfolding both_job
      whole_job =
          record {
            at = record {
              universe = u;
              scene = record {
                accepted_universe = e;
                accepted_rows = m.ready.accepted_rows;
                accepted_balls = m.ready.accepted_balls;
              };
              axes_are = refl;
              standing = rw (all_left, sides) (whole_standing u e);
              given = subst Given (sym block_is) (first u e);
            };
            tabled = tabled;
            carrying = record {
              trees = both_trees (named surfaces) words₁ words₂;
              few = two (words_carried (named surfaces) words₁ m.ready.accepted_first)
                  (words_carried (named surfaces) words₂ m.ready.accepted_second);
              counted = loaded.counted;
              holds = loaded.holds;
              inside = omega (arith, loaded.long, once, m.enough);
            };
            room = rw all_left (omega (arith, loaded.long, m.enough));
            bounded = omega (arith, loaded.long, m.bounded);
          }

      abbrev trees : List Plain
      trees = both_trees (named surfaces) words₁ words₂

      same_colours : (i : ℕ) → all_colour surfaces u trees (voxel_at (levels u) (whole_block u) i)
          ≡ tree_colour surfaces u (both s t) (voxel_at (levels u) (whole_block u) i)
      same_colours i = (two_stand surfaces s t).colours u (voxel_at (levels u) (whole_block u) i)

      whole_voxels : shaped true (voxel_shape (tree_colour surfaces u (both s t)) (levels u) (whole_block u)) ≡ shaped true (raw u surfaces (both s t))
      unfolding shaped
      whole_voxels = sym (examined_voxels surfaces (both s t) (levels u) (whole_block u) (left_whole u e))

      whole_merged : shape_over whole_job ≡ shaped true (raw u surfaces (both s t))
      unfolding whole_job
      whole_merged =
          ap₂ (λ (n : ℕ) (b : Block). shaped true (voxel_shape (all_colour surfaces u trees) n b)) all_left block_is
          ∙ shape_agree _ (tree_colour surfaces u (both s t)) (levels u) (whole_block u) same_colours
          ∙ whole_voxels

      whole_raw : raw_over whole_job ≡ shaped false (raw u surfaces (both s t))
      unfolding whole_job shaped
      whole_raw =
          ap₂ (λ (n : ℕ) (b : Block). examine_all surfaces trees n b) all_left block_is ∙ examine_all_lem (two_stand surfaces s t) (levels u) (whole_block u)

      whole_shape_lem : (merging : Bool) → written_over merging whole_job ≡ shaped merging (raw u surfaces (both s t))
      whole_shape_lem true = whole_merged
      whole_shape_lem false = whole_raw

      module _ (merging : Bool) where
        whole_symbols : symbols (written_over merging whole_job) ≡ written_of_two merging u surfaces words₁ words₂
        unfolding written_of_two
        whole_symbols = ap symbols (whole_shape_lem merging)

        pub whole_written : {out out' : List ℕ} {end : ℕ} → WrittenShape (written_over merging whole_job) out 0 end out' →
            (end ≡ length (written_of_two merging u surfaces words₁ words₂)) × (out' ≡ sets out 0 (written_of_two merging u surfaces words₁ words₂))
        whole_written {out} w = (
          omega (arith, w.ends, length_symbols (written_over merging whole_job), ap length whole_symbols),
          w.room ∙ ap (sets out 0) whole_symbols,
        )

-- ---- a block from the front of the room on
module _ {surfaces : Surfaces} {axes : ℕ} {table lengths low side : List ℕ} {left : ℕ} {codes : List ℕ} {from count times : ℕ}
    (job : BlockJob surfaces axes table lengths low side left codes from count times) {merging : Bool} {out out₁ : List ℕ} where
  -- merged, and the leaf that may have been held back is written
  pub merged_written : merging ≡ true → {packed : ℕ} {out₂ : List ℕ} → LaidShape (shape_over job) out 0 packed out₁ → out₂ ≡ noted out₁ 0 (packed % 256) →
      WrittenShape (written_over merging job) out 0 (packed / 256) out₂
  merged_written m {packed} {out₂} laid f =
      let w : WrittenShape (shape_over job) out 0 (packed / 256) out₂ =
      record {
        ends = (unpacked 0 (shape_over job) laid.piece).0;
        room = f ∙ rw (laid.room, (unpacked 0 (shape_over job) laid.piece).1) (laid_noted out 0 (shape_over job));
      } in
      subst (λ (b : Bool). WrittenShape (written_over b job) out 0 (packed / 256) out₂) (sym m) w

  pub raw_written : merging ≡ false → {end : ℕ} → WrittenShape (raw_over job) out 0 end out₁ → WrittenShape (written_over merging job) out 0 end out₁
  raw_written m {end} w = subst (λ (b : Bool). WrittenShape (written_over b job) out 0 end out₁) (sym m) w
