-- What is promised of merging's held count (rule 4.13), in one place: it is the largest held count of the bytes, over all legal continuations, and 0 on every
-- refusal; it is at most twice the levels, and in every universe some expression has that many.
use mathlib.Core.Path.{◌≡◌, refl, sym, ap, subst, ◌∙◌}
use mathlib.Core.List.{List}
use Prim.Native.Nat.{ℕ, ◌*◌, ◌≤◌}
use native.Mathlib.Decide.{ℕ_discrete}
use native.Mathlib.Omega.{arith}
use borrow.Author.Tests.{eq-eqb, ne_eqb}
use lib.ListN.{length, take}
use Rattle.universe.specs.declared.Universe.{Universe}
use Rattle.universe.specs.Universe.{universe_refusal, levels}
use Rattle.bintree.specs.Told.{WrittenAnswer}
use Rattle.bintree.specs.Shape.{Shape, symbols, depth}
use Rattle.bintree.specs.Reading.{Reading, none, read, expression, expression_refusal}
use Rattle.bintree.specs.Answers.{of_shape, well_formed_refusal, written_answer}
use Rattle.bintree.specs.Merging.{merged, most_held, merged_symbols, done_merging, with_held, merge_answer}
use Rattle.bintree.proofs.Shape.{length_symbols}
use Rattle.bintree.proofs.Reading.{reads_back, read_is}
use Rattle.bintree.proofs.Answers.{checks_universe, checks_none, checks_read, written_refused, written_all}
use Rattle.bintree.proofs.Merging.{merged_size}
use Rattle.held.specs.Held.{Held, LargestHeld, HeldBack, at_bound}
use Rattle.held.proofs.Texts.{spelt}
use Rattle.held.proofs.Bounds.{most_held_lem, most_bound, bound_depth, bound_attained}

module _ (held : ℕ) (answer : WrittenAnswer) where
  with_held_lem : answer.refusal ≡ 0 → (with_held held answer).held ≡ held
  with_held_lem e = rw (eq-eqb answer.refusal 0 e)

  with_none : (answer.refusal ≡ 0 → ⊥) → (with_held held answer).held ≡ 0
  with_none h = rw (ne_eqb answer.refusal 0 h)

module _ (u : Universe) (s out : List ℕ) where
  abbrev written : WrittenAnswer
  written = written_answer (well_formed_refusal u s) out (merged_symbols u s)

  abbrev most : ℕ
  most = of_shape (expression u s) 0 most_held

  -- what is accepted is read
  record Accepted : Type 0 where
    shape : Shape
    is : symbols shape ≡ s
    deep : depth shape ≤ levels u
    counts : most ≡ most_held shape

  accepted : written.refusal ≡ 0 → Accepted
  accepted e = by (ℕ_discrete (well_formed_refusal u s) 0)
    where
      of_shape_lem : Dec (universe_refusal u ≡ 0) → (x : Reading) → expression u s ≡ x → well_formed_refusal u s ≡ 0 → Accepted
      of_shape_lem (no h) x f z = absurd (h (sym (checks_universe u (universe_refusal u) refl s h) ∙ z))
      of_shape_lem (yes k) none f z = let g = checks_none u (universe_refusal u) refl s k f in absurd (omega arith)
      of_shape_lem (yes k) (read a) f z = let w = read_is u s a f in record { shape = a; is = w.0; deep = w.1; counts = rw f }

      by : Dec (well_formed_refusal u s ≡ 0) → Accepted
      by (yes z) = of_shape_lem (ℕ_discrete (universe_refusal u) 0) (expression u s) refl z
      by (no h) = absurd (h (ap (λ (a : WrittenAnswer). a.refusal) (written_refused (well_formed_refusal u s) out (merged_symbols u s) h) ∙ e))

  held_largest : written.refusal ≡ 0 → LargestHeld u s (with_held most written).held
  held_largest e =
      let a = accepted e in
      let k : (with_held most written).held ≡ most_held a.shape = with_held_lem most written e ∙ a.counts in
      subst (LargestHeld u s) (sym k) (subst (λ z. LargestHeld u z (most_held a.shape)) a.is (most_held_lem u a.shape a.deep))

  held_bound : (with_held most written).held ≤ 2 * levels u
  held_bound = by (ℕ_discrete written.refusal 0)
    where
      by : Dec (written.refusal ≡ 0) → (with_held most written).held ≤ 2 * levels u
      by (yes e) = let a = accepted e in omega (arith, with_held_lem most written e, a.counts, most_bound (levels u) a.shape a.deep)
      by (no h) = omega (arith, with_none most written h)

  -- THEOREM: what is promised of merging, for every universe, all bytes and any room
  pub merging_held : HeldBack u s (merge_answer u s out)
  unfolding merge_answer
  merging_held = record { largest = held_largest; none = with_none most written; few = held_bound }

-- THEOREM: by the definition alone, after no symbol of a well-formed expression are more than twice the levels held
pub held_few :
    (u : Universe) (text : List ℕ) → expression_refusal u text ≡ 0 → (n h : ℕ) → 1 ≤ n → n ≤ length text → Held u (take n text) h → h ≤ 2 * levels u
held_few u text e n h a b x =
    let w = spelt u text e in
    let c : n ≤ length (symbols w.shape) = rw w.is at b in
    omega (arith, (most_held_lem u w.shape w.deep).most n h a c (rw w.is at x), most_bound (levels u) w.shape w.deep)

-- THEOREM: and the bound is met in every universe, by merging `(B(B..W` of all its levels into as much room
module _ (u : Universe) (ok : universe_refusal u ≡ 0) where
  abbrev longest : List ℕ
  longest = symbols (at_bound (levels u))

  reads : expression u longest ≡ read (at_bound (levels u))
  reads = reads_back u (at_bound (levels u)) (omega (arith, bound_depth (levels u)))

  pub merging_attains :
      (out : List ℕ) → length longest ≤ length out → merge_answer u longest out ≡ done_merging (length (merged_symbols u longest)) (2 * levels u)
  unfolding merge_answer
  merging_attains out h =
      let a = at_bound (levels u) in
      let k : merged_symbols u longest ≡ symbols (merged a) = rw reads in
      let room : length (merged_symbols u longest) ≤ length out =
      omega (arith, ap length k, length_symbols (merged a), merged_size a, length_symbols a) in
      let w = written_all (well_formed_refusal u longest) out (merged_symbols u longest) (checks_read u (universe_refusal u) refl longest a ok reads) room in
      sym (ap (with_held (of_shape (expression u longest) 0 most_held)) w)
      ∙ ap (λ x. done_merging (length (merged_symbols u longest)) (of_shape x 0 most_held)) reads
      ∙ ap (done_merging (length (merged_symbols u longest))) (bound_attained (levels u))
