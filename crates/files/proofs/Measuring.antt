-- Whether an expression is merged is told by its length: merging leaves it exactly where there was nothing to merge. Merging into no room answers the
-- length needed, or the refusal 2 or 7 of what is no expression.
use Prim.Native.Nat.{ℕ, ◌<◌}
use native.Mathlib.Omega.{arith}
use native.Mathlib.Decide.{ℕ_discrete}
use mathlib.Core.Path.{◌≡◌, refl, sym, ap, ◌∙◌}
use mathlib.Core.Bool.{Bool, true, false}
use mathlib.Core.List.{List, []}
use lib.ListN.{length}
use borrow.Author.Tests.{eq-eqb, ne_eqb}
use Rattle.universe.specs.declared.Universe.{Universe}
use Rattle.universe.specs.declared.refusal.Refusal.{Refusal}
use Rattle.universe.specs.declared.refusal.Unwritten.TheVariants.{Refused, NoRoom}
use Rattle.universe.specs.Told.{number_of}
use Rattle.universe.specs.Refusals.{unless, bad_universe, bad_expression, no_room, not_merged}
use Rattle.universe.specs.Universe.{universe_refusal}
use Rattle.universe.proofs.Refusing.{last_check}
use Rattle.universe.proofs.Telling.{number-not_room}
use Rattle.std.specs.Prelude.{Ok, Err}
use Rattle.bintree.specs.declared.Merged.{Merged}
use Rattle.bintree.specs.Told.{MergedAnswer, merging_told}
use Rattle.bintree.specs.Shape.{Shape, size}
use Rattle.bintree.specs.Reading.{Reading, none, read, expression}
use Rattle.bintree.specs.Merging.{merged, is_merged, most_held, merged_symbols, with_held, merge_answer}
use Rattle.bintree.specs.Answers.{of_shape, well_formed_refusal, written_answer}
use Rattle.bintree.proofs.Shape.{length_symbols, size_positive}
use Rattle.bintree.proofs.Reading.{none_refused, shape_accepted, expression_at_lem}
use Rattle.bintree.proofs.Merging.{merged_self, self_merged, as_long_merged}
use Rattle.bintree.proofs.Answers.{checks_universe, checks_none, checks_read, written_refused, written_short}
use Rattle.files.specs.Shapes.{merged_refusal, symbols_refusal}

-- a shape is merged exactly where its merged shape is as long
pub merged_by_size : (a : Shape) → size (merged a) ≡ size a → is_merged a ≡ true
merged_by_size a e = self_merged a (as_long_merged a (omega arith))

pub size_by_merged : (a : Shape) → is_merged a ≡ true → size (merged a) ≡ size a
size_by_merged a e = ap size (merged_self a e)

-- what measuring told
data Told (u : Universe) (s : List ℕ) (m : MergedAnswer) : Type 0 where
  refuses : m.refusal ≡ symbols_refusal u s → (m.refusal ≡ 0 → ⊥) → (m.refusal ≡ no_room → ⊥) → Told u s m
  measures : (a : Shape) → m.refusal ≡ no_room → m.length ≡ size (merged a) → size a ≡ length s
      → symbols_refusal u s ≡ unless (is_merged a) not_merged → Told u s m

-- a universe is not refused for room
room_not_unless : (good : Bool) → unless good bad_universe ≡ no_room → ⊥
room_not_unless true e = absurd (omega arith)
room_not_unless false e = absurd (omega arith)

module _ (u : Universe) (s : List ℕ) {m : MergedAnswer} (e : m ≡ merge_answer u s []) where
  abbrev held : ℕ
  held = of_shape (expression u s) 0 most_held

  answered : {n : ℕ} → well_formed_refusal u s ≡ n → m ≡ with_held held (written_answer n [] (merged_symbols u s))
  unfolding merge_answer
  answered f = e ∙ ap (λ (k : ℕ). with_held held (written_answer k [] (merged_symbols u s))) f

  refused_by : (n : ℕ) → well_formed_refusal u s ≡ n → (n ≡ 0 → ⊥) → (n ≡ no_room → ⊥) → symbols_refusal u s ≡ n → Told u s m
  refused_by n f z six r =
      let w = answered f ∙ ap (with_held held) (sym (written_refused n [] (merged_symbols u s) z)) in
      let same : m.refusal ≡ n = ap (λ (x : MergedAnswer). x.refusal) w in
      refuses (same ∙ sym r) (λ e. z (sym same ∙ e)) (λ e. six (sym same ∙ e))

  by_shape : universe_refusal u ≡ 0 → (x : Reading) → expression u s ≡ x → Told u s m
  unfolding symbols_refusal merged_refusal
  by_shape z none x =
      refused_by bad_expression (checks_none u (universe_refusal u) refl s z x) (λ k. omega arith) (λ k. omega arith)
      (rw (eq-eqb (universe_refusal u) 0 z, none_refused u s x))
  by_shape z (read a) x =
      let long : 0 < length (merged_symbols u s) = rw x (omega (arith, length_symbols (merged a), size_positive (merged a))) in
      let w = answered (checks_read u (universe_refusal u) refl s a z x) ∙ ap (with_held held) (sym (written_short 0 [] (merged_symbols u s) refl long)) in
      measures a
      (ap (λ (v : MergedAnswer). v.refusal) w)
      (ap (λ (v : MergedAnswer). v.length) w ∙ rw x (length_symbols (merged a)))
      (expression_at_lem u s a x).1
      (rw (eq-eqb (universe_refusal u) 0 z, shape_accepted u s a x, x) (last_check (unless (is_merged a) not_merged)))

  not_room : no_room ≡ universe_refusal u → ⊥
  unfolding universe_refusal
  not_room f = room_not_unless _ (sym f)

  told : Told u s m
  unfolding symbols_refusal
  told = by_universe (ℕ_discrete (universe_refusal u) 0)
    where
      by_universe : Dec (universe_refusal u ≡ 0) → Told u s m
      by_universe (yes z) = by_shape z (expression u s) refl
      by_universe (no h) =
          refused_by (universe_refusal u) (checks_universe u (universe_refusal u) refl s h) h (λ e. not_room (sym e)) (rw (ne_eqb (universe_refusal u) 0 h))

-- by what the call of `merge` gave
module _ (u : Universe) (s : List ℕ) where
  pub measured_refused : (r : Refusal) → merging_told (Err (Refused r)) ≡ merge_answer u s [] → number_of r ≡ symbols_refusal u s
  measured_refused r e = by (told u s e)
    where
      by : Told u s (merging_told (Err (Refused r))) → number_of r ≡ symbols_refusal u s
      by (refuses f z six) = f
      by (measures a six l k w) = absurd (number-not_room r six)

  module _ (n : ℕ) (e : merging_told (Err (NoRoom n)) ≡ merge_answer u s []) where
    pub measured_merged : n ≡ length s → 0 ≡ symbols_refusal u s
    measured_merged h = by (told u s e)
      where
        by : Told u s (merging_told (Err (NoRoom n))) → 0 ≡ symbols_refusal u s
        by (refuses f z six) = absurd (six refl)
        by (measures a six l k w) = sym (w ∙ ap (λ (b : Bool). unless b not_merged) (merged_by_size a (omega arith)))

    pub measured_unmerged : (n ≡ length s → ⊥) → not_merged ≡ symbols_refusal u s
    measured_unmerged h = by (told u s e)
      where
        cut : (a : Shape) → n ≡ size (merged a) → size a ≡ length s → (b : Bool) → is_merged a ≡ b → not_merged ≡ unless b not_merged
        cut a l k true t = absurd (h (omega (arith, size_by_merged a t)))
        cut a l k false t = refl

        by : Told u s (merging_told (Err (NoRoom n))) → not_merged ≡ symbols_refusal u s
        by (refuses f z six) = absurd (six refl)
        by (measures a six l k w) = cut a l k (is_merged a) refl ∙ sym w

  -- no expression fits no room
  pub measured_written : (m : Merged) → merging_told (Ok m) ≡ merge_answer u s [] → ⊥
  measured_written m e = by (told u s e)
    where
      by : Told u s (merging_told (Ok m)) → ⊥
      by (refuses f z six) = z refl
      by (measures a six l k w) = absurd (omega (arith, six))

pub ruleset measuring_laws = (measured_refused, measured_merged, measured_unmerged, measured_written)
