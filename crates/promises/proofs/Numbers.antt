-- THE NUMBERS OF AN EXPRESSION: whatever bytes and whatever window are asked, the volume is that of the whole universe and the verdict that of the window, by
-- the colours that the colour question tells of the same bytes. `Numbered` (specs/Numbers.antt) lists it.
use Prim.Native.Nat.{ℕ}
use mathlib.Core.Path.{◌≡◌, refl, sym, ap, ◌∙◌}
use mathlib.Core.List.{List, [], ◌∷◌}
use native.Mathlib.Omega.{arith}
use Rattle.universe.specs.declared.Universe.{Universe}
use Rattle.universe.specs.Refusals.{first_refusal}
use Rattle.universe.specs.Universe.{universe_refusal}
use Rattle.universe.specs.Voxel.{voxel_refusal, window_refusal}
use Rattle.universe.proofs.Universes.{accepted}
use Rattle.bintree.specs.Told.{ColouredAnswer, NumbersAnswer}
use Rattle.bintree.specs.declared.Verdict.TheVariants.{Clear}
use Rattle.bintree.specs.Shape.{Shape}
use Rattle.bintree.specs.Reading.{Reading, none, read, expression, expression_refusal}
use Rattle.bintree.specs.Answers.{of_shape}
use Rattle.bintree.specs.Parts.{colour_at, done_colour, colour_answer}
use Rattle.bintree.specs.Counts.{volume}
use Rattle.bintree.specs.Verdicts.{verdict, refused_numbers, done_numbers, window_checks, numbers_answer}
use Rattle.bintree.proofs.Answers.{number_of, is_refused}
use Rattle.bintree.proofs.Reading.{none_refused, read_is}
use Rattle.bintree.proofs.Verdicts.{numbers_accepted}
use Rattle.demands.proofs.Voxels.{volume_of_lem}
use Rattle.demands.proofs.Verdicts.{judges}
use Rattle.promises.specs.Shortest.{colours_of}
use Rattle.promises.specs.Numbers.{Numbered}
use Rattle.promises.proofs.Keeping.{first_accepts, colour_accepted}

module _ (u : Universe) (s : List ℕ) (first last : ℕ) where
  abbrev given : NumbersAnswer
  given = numbers_answer u s first last

  abbrev done : Reading → NumbersAnswer
  done x = of_shape x (done_numbers 0 Clear) (λ a. done_numbers (volume u a) (verdict u a first last))

  first_told : given.refusal ≡ first_refusal (window_checks u s first last)
  unfolding numbers_answer
  first_told =
      number_of refused_numbers (done (expression u s)) (first_refusal (window_checks u s first last)) (λ a. a.refusal) (λ m. refl) (go (expression u s))
    where
      go : (x : Reading) → (done x).refusal ≡ 0
      go none = refl
      go (read a) = refl

  nothing_told : (given.refusal ≡ 0 → ⊥) → refused_numbers (first_refusal (window_checks u s first last)) ≡ given
  unfolding numbers_answer
  nothing_told n = is_refused refused_numbers (done (expression u s)) (first_refusal (window_checks u s first last)) (λ z. n (first_told ∙ z))

  -- what is accepted
  record Taken : Type 0 where
    pub universe : universe_refusal u ≡ 0
    pub shape : Shape
    pub reads : expression u s ≡ read shape
    pub window : window_refusal u first last ≡ 0

  taken : given.refusal ≡ 0 → Taken
  taken z =
      let a = first_accepts (universe_refusal u) (expression_refusal u s ∷ window_refusal u first last ∷ []) (sym first_told ∙ z) in
      let b = first_accepts (expression_refusal u s) (window_refusal u first last ∷ []) a.1 in
      go a.0 b.0 (first_accepts (window_refusal u first last) [] b.1).0 (expression u s) refl
    where
      go : universe_refusal u ≡ 0 → expression_refusal u s ≡ 0 → window_refusal u first last ≡ 0 → (x : Reading) → expression u s ≡ x → Taken
      go ok e w none x = absurd (omega (arith, none_refused u s x))
      go ok e w (read a) x = record { universe = ok; shape = a; reads = x; window = w }

  module _ (t : Taken) where
    told : given ≡ done_numbers (volume u t.shape) (verdict u t.shape first last)
    told = numbers_accepted u s first last t.shape t.universe t.reads t.window

    at : (v : List ℕ) → voxel_refusal u v ≡ 0 → colour_answer u s v ≡ done_colour (colour_at u t.shape v)
    at v w = colour_accepted u s v t.shape t.universe t.reads w

    same : (v : List ℕ) → voxel_refusal u v ≡ 0 → colour_at u t.shape v ≡ colours_of u s v
    same v w = sym (ap (λ (c : ColouredAnswer). c.colour) (at v w))

  pub numbers_of : Numbered u s first last given
  numbers_of =
      record {
        number = first_told;
        volume_refused = λ n. sym (ap (λ (a : NumbersAnswer). a.volume) (nothing_told n));
        verdict_refused = λ n. sym (ap (λ (a : NumbersAnswer). a.verdict) (nothing_told n));
        coloured = λ z v w. ap (λ (c : ColouredAnswer). c.refusal) (at (taken z) v w);
        whole = λ z.
            let t = taken z in
            ap (λ (a : NumbersAnswer). a.volume) (told t)
            ∙ volume_of_lem u (accepted u t.universe) t.shape (read_is u s t.shape t.reads).1 (colours_of u s) (same t);
        judged = λ z.
            let t = taken z in
            rw (told t)
            (judges u (accepted u t.universe) t.shape (read_is u s t.shape t.reads).1 (colours_of u s) (same t) first last t.window);
      }
