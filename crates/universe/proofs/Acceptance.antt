-- Laws of specs/Accepting.antt: an answer of acceptance has the number of the check, and an accepted universe is the very one that was asked; so each
-- question of a universe has the answer of the accepted one, or what a refused one answers.
use mathlib.Core.Path.{◌≡◌, refl, sym, ap, ◌∙◌}
use Prim.Native.Nat.{ℕ, ◌*◌, ◌%◌, ◌^◌, ◌≤◌, ◌<◌}
use native.Mathlib.Omega.{arith}
use native.Mathlib.Decide.{ℕ_discrete, dec_lt}
use borrow.Author.Tests.{eq-eqb, ne_eqb, lt-ltb, le-ltb}
use lib.ListN.{replicate}
use mathlib.Core.HLevel.{is_prop→PathP}
use native.Mathlib.Nat.{ℕ_set}
use Rattle.std.specs.Prelude.{Result, Ok, Err}
use Rattle.universe.specs.declared.accepted.Accepted.{Accepted}
use Rattle.universe.specs.declared.refusal.Refusal.{Refusal}
use Rattle.universe.proofs.Telling.{number-not_zero, number-injective}
use Rattle.lemmas.proofs.Machine.{shifted_one}
use Rattle.std.specs.Option.{unwrap_or}
use Rattle.universe.specs.declared.Universe.{Universe}
use Rattle.universe.specs.Universe.{most_levels, universe_refusal, levels, frame_count}
use Rattle.universe.specs.Questions.{levels_answer, side_answer, axes_left, no_universe}
use Rattle.universe.specs.Accepting.{AcceptedAnswer, accepted_told, accepted_answer, side_or_none}
use Rattle.universe.specs.Room.{room, room_answer}
use Rattle.universe.proofs.Universes.{accepted, frame_bits_lem}
use Rattle.universe.proofs.Questions.{levels_are, levels_refused, side_is, side_beyond, side_refused}
use Rattle.universe.proofs.Laying.{laying_refused}

-- what the code gives, by what the check told
pub accepted_done : (u : Universe) → universe_refusal u ≡ 0 → record { refusal = 0; universe = u } ≡ accepted_answer u
unfolding accepted_answer
accepted_done u z = rw (eq-eqb (universe_refusal u) 0 z)

pub accepted_not : (u : Universe) (n : ℕ) → n ≡ universe_refusal u → (n ≡ 0 → ⊥) → record { refusal = n; universe = no_universe } ≡ accepted_answer u
unfolding accepted_answer
accepted_not u n e h = rw (← e, ne_eqb n 0 h)

-- what an answer says: an accepted universe is the very one that was asked
module _ (u : Universe) where
  number : (accepted_answer u).refusal ≡ universe_refusal u
  number = go (ℕ_discrete (universe_refusal u) 0)
    where
      go : Dec (universe_refusal u ≡ 0) → (accepted_answer u).refusal ≡ universe_refusal u
      go (yes z) = ap (λ (t : AcceptedAnswer). t.refusal) (sym (accepted_done u z)) ∙ sym z
      go (no n) = ap (λ (t : AcceptedAnswer). t.refusal) (sym (accepted_not u (universe_refusal u) refl n))

  module _ {n : ℕ} {v : Universe} (e : record { refusal = n; universe = v } ≡ accepted_answer u) where
    pub accepted_number : n ≡ universe_refusal u
    accepted_number = ap (λ (t : AcceptedAnswer). t.refusal) e ∙ number

    pub accepted_same : n ≡ 0 → v ≡ u
    accepted_same z = ap (λ (t : AcceptedAnswer). t.universe) (e ∙ sym (accepted_done u (sym accepted_number ∙ z)))

    -- where the number is 0 its answers are those of the one that was asked
    module _ (z : n ≡ 0) where
      fine : universe_refusal u ≡ 0
      fine = sym accepted_number ∙ z

      pub asked_levels : levels v ≡ levels_answer u
      asked_levels = ap levels (accepted_same z) ∙ sym (levels_are u refl fine)

      pub asked_axes : axes_left v ≡ axes_left u
      asked_axes = ap axes_left (accepted_same z)

      pub asked_side : (i : ℕ) → unwrap_or (side_or_none v i) 0 ≡ side_answer u i
      asked_side i = ap (λ w. unwrap_or (side_or_none w i) 0) (accepted_same z) ∙ go (dec_lt i u.axes)
        where
          go : Dec (i < u.axes) → unwrap_or (side_or_none u i) 0 ≡ side_answer u i
          go (yes h) = rw (lt-ltb i u.axes h) (sym (side_is u refl fine i h))
          go (no h) = rw (le-ltb i u.axes (omega arith)) (side_beyond u refl fine i (omega arith))

      pub asked_room : (leaves balls : ℕ) → record { refusal = 0; symbols = room v leaves balls } ≡ room_answer u leaves balls
      unfolding room_answer
      asked_room leaves balls = rw (accepted_same z, eq-eqb (universe_refusal u) 0 fine)

    -- and where it is not the universe is refused
    module _ (h : n ≡ 0 → ⊥) where
      bad : universe_refusal u ≡ 0 → ⊥
      bad z = h (accepted_number ∙ z)

      pub refused_levels : 0 ≡ levels_answer u
      refused_levels = levels_refused u refl bad

      pub refused_axes : replicate most_levels 0 ≡ axes_left u
      refused_axes = laying_refused u bad

      pub refused_side : (i : ℕ) → 0 ≡ side_answer u i
      refused_side = side_refused u refl bad

      pub refused_room : (leaves balls : ℕ) → record { refusal = n; symbols = 0 } ≡ room_answer u leaves balls
      unfolding room_answer
      refused_room leaves balls = rw (ne_eqb (universe_refusal u) 0 bad, accepted_number)

-- two answers that tell the same are one answer
pub accepted-injective : (r s : Result Accepted Refusal) → accepted_told r ≡ accepted_told s → r ≡ s
accepted-injective (Ok a) (Ok b) h =
    let refused : 𝕀 → ℕ = λ i. universe_refusal (h i).universe in
    let both = is_prop→PathP (λ i. refused i ≡ 0) (λ i. ℕ_set (refused i) 0) a.not_refused b.not_refused in
    ap Ok (λ i. record { universe = (h i).universe; not_refused = both i })
accepted-injective (Ok a) (Err f) h = absurd (number-not_zero f (sym (ap (λ (t : AcceptedAnswer). t.refusal) h)))
accepted-injective (Err e) (Ok b) h = absurd (number-not_zero e (ap (λ (t : AcceptedAnswer). t.refusal) h))
accepted-injective (Err e) (Err f) h = ap Err (number-injective e f (ap (λ (t : AcceptedAnswer). t.refusal) h))

-- an accepted universe has a last axis, and few frame bits
module _ (u : Universe) (z : universe_refusal u ≡ 0) where
  pub some_axis : 1 ≤ u.axes
  some_axis = (accepted u z).some_axes

  pub few_frame_bits : u.frame_bits < 64
  few_frame_bits = omega (arith, (accepted u z).few_frame_bits)

  pub frames_are : 1 * 2 ^ u.frame_bits % 2 ^ 64 ≡ frame_count u
  frames_are = rw (frame_bits_lem u) (shifted_one u.frame_bits few_frame_bits)

pub ruleset accepting = (some_axis, few_frame_bits, frames_are)
