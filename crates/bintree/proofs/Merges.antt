-- What `merge` of src/lay.rt answers and leaves: the checks 2 and 7, then room, 6; measuring tells the length and what is held, laying writes. Each law
-- takes its premises in the form that code leaves them.
use mathlib.Core.Path.{◌≡◌, sym, ap, ◌∙◌}
use mathlib.Core.List.{List}
use Prim.Native.Nat.{ℕ, ◌+◌, ◌*◌, ◌≤◌, ◌<◌}
use native.Mathlib.Omega.{arith}
use borrow.Author.Tests.{ne_eqb}
use lib.ListN.{length}
use lib.Seq.{sets}
use Rattle.std.specs.Prelude.{Option, Some, None}
use Rattle.universe.specs.declared.Universe.{Universe}
use Rattle.universe.specs.Questions.{levels_answer}
use Rattle.universe.specs.Refusals.{bad_expression}
use Rattle.universe.specs.Universe.{universe_refusal, levels, most_levels}
use Rattle.bintree.specs.declared.lay.Laid.{Laid}
use Rattle.bintree.specs.declared.measure.Measured.{Measured}
use Rattle.bintree.specs.Shape.{symbols}
use Rattle.bintree.specs.Reading.{none, read, read_at, expression}
use Rattle.bintree.specs.Answers.{of_shape, well_formed_refusal, refused_writing}
use Rattle.bintree.specs.Merging.{merged, most_held, merged_symbols, merge_answer, merge_buffer}
use Rattle.bintree.specs.Merging.{refused_merging, short_merging, done_merging, with_held}
use Rattle.bintree.specs.Walks.{noted, laid, Lays, measure_answer}
use Rattle.bintree.proofs.Answers.{asked_levels, levels_most, checks_universe, checks_none, checks_read}
use Rattle.bintree.proofs.Answers.{written_refused, kept_refused, written_short, kept_short, written_all, left_all}
use Rattle.bintree.proofs.Shape.{length_symbols}
use Rattle.bintree.proofs.Reading.{expression_none, expression_rest, expression_read}
use Rattle.bintree.proofs.Lays.{laid_noted}
use Rattle.bintree.proofs.Measures.{broken_none, Measuring, measuring, held_all}
use Rattle.lemmas.proofs.Stores.{sets_first}

refused_held : (held n : ℕ) → (n ≡ 0 → ⊥) → refused_merging n ≡ with_held held (refused_writing n)
refused_held held n h = rw (ne_eqb n 0 h)

-- `number` is the universe's own check; measuring comes first, laying writes

module _ (u : Universe) (s out : List ℕ) (number : ℕ) (e : number ≡ universe_refusal u) where
  -- what is held is told where nothing is refused
  abbrev held_here : ℕ
  held_here = of_shape (expression u s) 0 most_held

  -- refused by a number before 6
  module _ (n : ℕ) (refuses : n ≡ 0 → ⊥) (checks : well_formed_refusal u s ≡ n) where
    stopped : refused_merging n ≡ merge_answer u s out
    unfolding merge_answer
    stopped = refused_held held_here n refuses ∙ rw checks (ap (with_held held_here) (written_refused n out (merged_symbols u s) refuses))

    untouched : out ≡ merge_buffer u s out
    unfolding merge_buffer
    untouched = rw checks (kept_refused n out (merged_symbols u s) refuses)

  module _ (n : number ≡ 0 → ⊥) where
    pub merge_refused : refused_merging number ≡ merge_answer u s out
    merge_refused = stopped number n (checks_universe u number e s n)

    pub merge_kept : out ≡ merge_buffer u s out
    merge_kept = untouched number n (checks_universe u number e s n)

  module _ (z : number ≡ 0) (x : expression u s ≡ none) where
    seven : refused_merging bad_expression ≡ merge_answer u s out
    seven = stopped bad_expression (λ k. omega arith) (checks_none u number e s z x)

    seven_kept : out ≡ merge_buffer u s out
    seven_kept = untouched bad_expression (λ k. omega arith) (checks_none u number e s z x)

  module _ (z : number ≡ 0) (count : ℕ) (c : count ≡ levels_answer u) where
    -- with the levels that were asked for
    its_levels : count ≡ levels u
    its_levels = asked_levels u number e count z c

    module _ (first : None ≡ measure_answer 0 0 0 0 (read_at s count 0)) where
      nothing_read : expression u s ≡ none
      nothing_read = expression_none u s (broken_none 0 0 0 0 (read_at s (levels u) 0) (rw its_levels at first))

      pub merge_broken : refused_merging bad_expression ≡ merge_answer u s out
      merge_broken = seven z nothing_read

      pub merge_broken_kept : out ≡ merge_buffer u s out
      merge_broken_kept = seven_kept z nothing_read

    module _ (t : Measured) (first : Some t ≡ measure_answer 0 0 0 0 (read_at s count 0)) where
      all_measured : Measuring 0 0 0 0 t (read_at s (levels u) 0)
      all_measured = measuring 0 0 0 0 t (read_at s (levels u) 0) (rw its_levels at first)

      module _ (n : t.end ≡ length s → ⊥) where
        rest : expression u s ≡ none
        rest = let l = all_measured in expression_rest u s l.shape l.is (λ k. n (omega (arith, l.after)))

        pub merge_rest : refused_merging bad_expression ≡ merge_answer u s out
        merge_rest = seven z rest

        pub merge_rest_kept : out ≡ merge_buffer u s out
        merge_rest_kept = seven_kept z rest

      module _ (k : t.end ≡ length s) where
        is_read : expression u s ≡ read all_measured.shape
        is_read = let l = all_measured in expression_read u s l.shape l.is (omega (arith, l.after))

        accepted : well_formed_refusal u s ≡ 0
        accepted = checks_read u number e s all_measured.shape z is_read

        its_symbols : merged_symbols u s ≡ symbols (merged all_measured.shape)
        its_symbols = rw is_read

        its_length : t.length ≡ length (merged_symbols u s)
        its_length = all_measured.long ∙ sym (length_symbols (merged all_measured.shape)) ∙ sym (ap length its_symbols)

        its_held : t.held ≡ held_here
        its_held = all_measured.held ∙ held_all all_measured.shape ∙ rw is_read

        module _ (h : length out < t.length) where
          pub merge_short : short_merging t.length ≡ merge_answer u s out
          unfolding merge_answer
          merge_short =
              ap short_merging its_length
              ∙ ap (with_held held_here) (written_short (well_formed_refusal u s) out (merged_symbols u s) accepted (omega (arith, its_length)))

          pub merge_short_kept : out ≡ merge_buffer u s out
          unfolding merge_buffer
          merge_short_kept = kept_short (well_formed_refusal u s) out (merged_symbols u s) accepted (omega (arith, its_length))

        module _ (h : t.length ≤ length out) where
          pub merge_done : done_merging t.length t.held ≡ merge_answer u s out
          unfolding merge_answer
          merge_done =
              ap (λ y. done_merging y t.held) its_length
              ∙ ap (done_merging (length (merged_symbols u s))) its_held
              ∙ ap (with_held held_here) (written_all (well_formed_refusal u s) out (merged_symbols u s) accepted (omega (arith, its_length)))

          pub merge_left :
              (r : Option Laid) (o₂ o₃ : List ℕ) → Lays 0 0 out (read_at s count 0) r o₂ → o₃ ≡ noted o₂ 0 t.symbol → o₃ ≡ merge_buffer u s out
          unfolding merge_buffer
          merge_left r o₂ o₃ v f =
              let a = all_measured.shape in
              let v' : Lays 0 0 out (read_at s (levels u) 0) r o₂ = rw its_levels at v in
              let room : length (merged_symbols u s) ≤ length out = omega (arith, its_length) in
              f
              ∙ ap (λ y. noted y 0 t.symbol) (v'.leaves a all_measured.is)
              ∙ ap (noted (laid out 0 (merged a)) 0) all_measured.symbol
              ∙ laid_noted out 0 (merged a)
              ∙ ap (sets out 0) (sym its_symbols)
              ∙ sets_first (merged_symbols u s) out room
              ∙ left_all (well_formed_refusal u s) out (merged_symbols u s) accepted room

-- twice the levels that were asked for
pub twice_fits : (u : Universe) (count : ℕ) → count ≡ levels_answer u → 0 + 2 * count ≤ 2 * most_levels
twice_fits u count c = omega (arith, levels_most u count c)
