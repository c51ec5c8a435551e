-- One side of a ball left alone over a block: it is judged by the ball's distances, and a half has places and sides of its own, which are put back.
use Prim.Native.Nat.{ℕ, suc, ◌+◌, ◌*◌, ◌-◌, ◌/◌, ◌%◌, ◌^◌, ◌<◌}
use mathlib.Core.Path.{◌≡◌, refl, sym, ap, ◌∙◌}
use mathlib.Core.Bool.{Bool, false}
use mathlib.Core.List.{List}
use native.Mathlib.Omega.{arith}
use borrow.Author.Tests.{eqb-true, eq-eqb, ne_eqb}
use lib.Dec.{eqb, leb}
use lib.IntN.{ℤ}
use lib.ListN.{get_or, set}
use Rattle.lemmas.proofs.Stores.{restored}
use Rattle.universe.specs.Universe.{most_axes, most_levels, levels, axis_at}
use Rattle.csg.specs.Ball.{Ball, ball_at, radius_squared}
use Rattle.csg.specs.Surfaces.{ball}
use Rattle.convert.specs.Codes.{bits_of, off_over, ball_code_over, ball_code_at}
use Rattle.convert.specs.Small.{SmallPlaces, BallReady}
use Rattle.convert.specs.Blocks.{block_left, halved_sides, high_lows}
use Rattle.convert.proofs.Blocks.{axis_is, low_small, side_small}
use Rattle.convert.proofs.Judging.{small_balls}
use Rattle.convert.specs.Shapes.{symbol_of_bits, end_limit}
use Rattle.pruned.specs.Nodes.{Stepping, ball_code, turned_code}
use Rattle.pruned.specs.Laying.{joined_packed, joined_out}
use Rattle.pruned.specs.Single.{SingleBlockLaid}
use Rattle.pruned.specs.Round.{LoneBall, ball_surfaces, ball_block, BallBlock, BallBlockLaid, BallHalves, BallHalvesLaid}
use Rattle.pruned.proofs.Leaves.{own_mark, ball_own}
use Rattle.pruned.proofs.Steps.{ok, stepping, step_same}
use Rattle.pruned.proofs.Singles.{tested_decided, single_closed, single_halves, single_opened, level_in, axis_in, lower_stands, upper_stands, two_fit}
use Rattle.pruned.proofs.Singles.{lower_asked, upper_asked, both_asked, both_done}

-- ---- the code by the levels left
module _ (left places : ℕ) (b : Ball) (low side : List ℕ) where
  voxel_bits : left ≡ 0 → {bits : ℕ} → bits ≡ ball_code_at places b low → bits ≡ ball_code (eqb left 0) places b low side
  voxel_bits z e = rw (eq-eqb left 0 z) e

  over_bits : (left ≡ 0 → ⊥) → {bits : ℕ} → bits ≡ ball_code_over places b low side → bits ≡ ball_code (eqb left 0) places b low side
  over_bits n e = rw (ne_eqb left 0 n) e

-- ---- what the ball asks
module _ {places : ℕ} {balls : List ℤ} {i : ℕ} {table low side : List ℕ} {left : ℕ} (l : LoneBall places balls i table low side left) where
  pub ball_ready : BallReady places balls i low
  ball_ready =
      record {
        few = omega (arith, l.places_are, (ok l.scene).few_axes);
        named = l.named;
        small = small_balls l.universe balls l.scene.accepted_balls i l.named;
        lows = low_small l.standing;
      }

  pub sides_ready : SmallPlaces side
  sides_ready = side_small l.standing

-- ---- a block
module _ {places : ℕ} {balls : List ℤ} {i : ℕ} {turned : Bool} {table low side : List ℕ} {left : ℕ} {looked : List ℕ} {at : ℕ}
    (job : BallBlock places balls i turned table low side left looked at) where
  abbrev l : LoneBall places balls i table low side left
  l = job.lone

  abbrev it : Ball
  it = ball_at balls i

  step : Stepping (ball_surfaces l) l.universe.axes low side 0 0 false (eqb left 0)
  step = step_same l.scene refl l.standing (λ e. eqb-true left 0 e)

  own : ball_code (eqb left 0) places it low side ≡ bits_of (own_mark (eqb left 0) (ball_surfaces l) (ball_block l) (ball i))
  unfolding step step_same stepping
  own = ap (λ (k : ℕ). ball_code (eqb left 0) k it low side) l.places_are ∙ ball_own step (eqb left 0) i

  abbrev Leaf : ℕ → ℕ → Type 0
  Leaf packed bits = packed ≡ (at + 1) * 256 + symbol_of_bits (turned_code turned bits)

  closed_by : {bits : ℕ} → bits ≡ ball_code (eqb left 0) places it low side → (bits ≡ 0 → ⊥) → {packed : ℕ} → Leaf packed bits → (m : Bool)
      (out : List ℕ) → BallBlockLaid job m out packed out looked low side
  closed_by e n p m out = record { single = single_closed job.asked (e ∙ own) n p m out; lows = refl; sides = refl }

  pub voxel_closed : left ≡ 0 → {bits packed : ℕ} → bits ≡ ball_code_at places it low → Leaf packed bits → (m : Bool) (out : List ℕ) →
      BallBlockLaid job m out packed out looked low side
  voxel_closed z e =
      closed_by (voxel_bits left places it low side z e) (λ f. tested_decided (leb (off_over places it low) (4 * radius_squared it)) (sym e ∙ f))

  module _ (n : left ≡ 0 → ⊥) {bits : ℕ} (e : bits ≡ ball_code_over places it low side) where
    over_own : bits ≡ bits_of (own_mark (eqb left 0) (ball_surfaces l) (ball_block l) (ball i))
    over_own = over_bits left places it low side n e ∙ own

    pub over_closed : (bits ≡ 0 → ⊥) → {packed : ℕ} → Leaf packed bits → (m : Bool) (out : List ℕ) → BallBlockLaid job m out packed out looked low side
    over_closed = closed_by (over_bits left places it low side n e)

    module _ (z : bits ≡ 0) where
      pub open_asked : BallHalves places balls i turned table low side left looked at
      open_asked = record { lone = l; asked = single_halves job.asked over_own z }

      pub open_done : (m : Bool) (out : List ℕ) {packed : ℕ} {out' looked' low' side' : List ℕ} →
          BallHalvesLaid open_asked m out packed out' looked' low' side' → BallBlockLaid job m out packed out' looked' low' side'
      unfolding open_asked
      open_done m out d = record { single = single_opened job.asked over_own z m out d.single; lows = d.lows; sides = d.sides }

-- ---- both halves
module _ {places : ℕ} {balls : List ℤ} {i : ℕ} {turned : Bool} {table low side : List ℕ} {left : ℕ} {looked : List ℕ} {at : ℕ}
    (job : BallHalves places balls i turned table low side left looked at) where
  abbrev l₀ : LoneBall places balls i table low side left
  l₀ = job.lone

  abbrev n : ℕ
  n = left - 1

  abbrev axis : ℕ
  axis = get_or table n 0

  abbrev half : ℕ
  half = get_or side axis 0 / 2

  at_level : axis ≡ axis_at l₀.universe (levels l₀.universe - suc n)
  at_level = axis_is l₀.universe l₀.scene.accepted_universe l₀.table_is n (omega (arith, l₀.standing.above, job.asked.some))

  pub level_fits : n < most_levels
  level_fits = level_in l₀.scene l₀.standing at_level job.asked

  pub axis_fits : axis < most_axes
  axis_fits = axis_in l₀.scene l₀.standing at_level job.asked

  pub middle_fits : get_or low axis 0 + half < 2 ^ 64
  middle_fits = omega (arith, (l₀.standing.inside axis).most)

  pub tally_fits : get_or looked 0 0 + 2 < 2 ^ 64
  tally_fits = two_fit l₀.scene l₀.standing at_level job.asked

  abbrev looked₁ : List ℕ
  looked₁ = set looked 0 (get_or looked 0 0 + 2)

  pub lower_part_lem : BallBlock places balls i turned table low (set side axis half) n looked₁ (at + 1)
  lower_part_lem =
      record {
        lone = record {
          universe = l₀.universe;
          rows = l₀.rows;
          scene = l₀.scene;
          standing = lower_stands l₀.scene l₀.standing at_level job.asked;
          named = l₀.named;
          table_is = l₀.table_is;
          places_are = l₀.places_are;
        };
        asked = lower_asked l₀.scene l₀.standing at_level job.asked;
      }

  -- the low half is laid
  module _ (m : Bool) (out : List ℕ) {packed₁ : ℕ} {out₁ looked₂ low₁ side₁ : List ℕ}
      (laid₁ : BallBlockLaid lower_part_lem m out packed₁ out₁ looked₂ low₁ side₁) where
    abbrev Lower : Type 0
    Lower = SingleBlockLaid (ball_surfaces l₀) turned (ball i) n (block_left l₀.universe n low) looked₁ (at + 1) m out packed₁ out₁ looked₂

    lower : Lower
    unfolding lower_part_lem
    lower = laid₁.single

    lower_sides : side₁ ≡ halved_sides side axis
    lower_sides = laid₁.sides

    abbrev low₂ : List ℕ
    low₂ = set low₁ axis (get_or low axis 0 + half)

    low_is : low₂ ≡ high_lows low side axis
    low_is = ap (λ (k : List ℕ). set k axis (get_or low axis 0 + half)) laid₁.lows

    abbrev Upper : List ℕ → List ℕ → Type 0
    Upper lows sides = BallBlock places balls i turned table lows sides n looked₂ (packed₁ / 256)

    upper_exact : Upper (high_lows low side axis) (halved_sides side axis)
    upper_exact =
        record {
          lone = record {
            universe = l₀.universe;
            rows = l₀.rows;
            scene = l₀.scene;
            standing = upper_stands l₀.scene l₀.standing at_level job.asked;
            named = l₀.named;
            table_is = l₀.table_is;
            places_are = l₀.places_are;
          };
          asked = upper_asked l₀.scene l₀.standing at_level job.asked m out lower;
        }

    pub upper_part_lem : Upper low₂ side₁
    upper_part_lem = rw (low_is, lower_sides) upper_exact

    -- the high half is laid too
    module _ {packed₂ : ℕ} {out₂ looked₃ low₃ side₂ : List ℕ}
        (f : (j : Upper low₂ side₁) → BallBlockLaid j m out₁ packed₂ out₂ looked₃ low₃ side₂) where
      laid₂ : BallBlockLaid upper_exact m out₁ packed₂ out₂ looked₃ low₃ side₂
      laid₂ = let g : (j : Upper (high_lows low side axis) (halved_sides side axis)) → BallBlockLaid j m out₁ packed₂ out₂ looked₃ low₃ side₂ =
          rw (low_is, lower_sides) at f in g upper_exact

      upper : SingleBlockLaid (ball_surfaces l₀) turned (ball i) n (block_left l₀.universe n (high_lows low side axis)) looked₂ (packed₁ / 256) m out₁ packed₂
          out₂ looked₃
      unfolding upper_exact
      upper = laid₂.single

      pub join_asked : (at + 1 < end_limit) × (packed₂ / 256 < end_limit)
      join_asked = both_asked l₀.scene l₀.standing at_level job.asked m out lower upper

      pub parts_done : {packed : ℕ} {out₃ : List ℕ} → packed ≡ joined_packed m at (packed₁ % 256) (packed₂ % 256) (packed₂ / 256) →
          out₃ ≡ joined_out m out₂ at (packed₁ % 256) (packed₁ / 256) (packed₂ % 256) →
          BallHalvesLaid job m out packed out₃ looked₃ (set low₃ axis (get_or low axis 0)) (set side₂ axis (get_or side axis 0))
      parts_done p q =
          record {
            single = both_done l₀.scene l₀.standing at_level job.asked m out lower upper p q;
            lows = ap (λ (k : List ℕ). set k axis (get_or low axis 0)) laid₂.lows ∙ restored low axis (get_or low axis 0 + half);
            sides = ap (λ (k : List ℕ). set k axis (get_or side axis 0)) laid₂.sides ∙ restored side axis half;
          }
