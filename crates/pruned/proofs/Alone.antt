-- One side of a halfspace left alone over a block: it is judged by its two values, and these move to either half by the level's amount.
use Prim.Native.Nat.{ℕ, suc, ◌+◌, ◌*◌, ◌-◌, ◌/◌, ◌%◌, ◌^◌, ◌<◌}
use mathlib.Core.Path.{◌≡◌, refl, sym, ap, ap₂, ◌∙◌}
use mathlib.Core.Bool.{Bool, true, false}
use mathlib.Core.List.{List}
use native.Mathlib.Omega.{arith}
use borrow.Author.Tests.{eqb-true, eq-eqb, ne_eqb}
use lib.Dec.{eqb}
use lib.IntN.{ℤ, pos, ◌+ℤ◌, ◌*ℤ◌}
use lib.Signed.{le_z}
use lib.ListN.{get_or, set}
use Rattle.lemmas.proofs.Machine.{near}
use Rattle.universe.specs.declared.Universe.{Universe}
use Rattle.universe.specs.Universe.{most_levels, levels, axis_at}
use Rattle.csg.specs.Halfspace.{Halfspace, row_at, least, greatest}
use Rattle.csg.specs.Surfaces.{Surface, halfspace}
use Rattle.convert.specs.Codes.{bits_of}
use Rattle.convert.specs.Small.{SmallHalfspace}
use Rattle.convert.specs.Blocks.{Standing, block_left, half_side, halved_sides, high_lows}
use Rattle.convert.proofs.Blocks.{half_is, axis_few}
use Rattle.convert.specs.Shapes.{symbol_of_bits, end_limit}
use Rattle.pruned.specs.Nodes.{number_at, moved_least, moved_greatest, SmallExtreme, SmallAmount, MovedBy, Stepping, value_code, turned_code}
use Rattle.pruned.specs.Laying.{joined_packed, joined_out}
use Rattle.pruned.specs.Single.{SingleBlockLaid}
use Rattle.pruned.specs.Alone.{Steps, Lone, lone_block, LoneBlock, LoneBlockLaid, LoneHalves, LoneHalvesLaid}
use Rattle.pruned.proofs.Moving.{held, extreme_near, amount_small}
use Rattle.pruned.proofs.Leaves.{own_mark, row_own}
use Rattle.pruned.proofs.Steps.{ok, rows_small, standing_small, stepping, step_low, step_high, step_same}
use Rattle.pruned.proofs.Singles.{tested_decided, single_closed, single_halves, single_opened, standing_suc, block_suc, level_in, lower_stands}
use Rattle.pruned.proofs.Singles.{not_so, upper_stands, two_fit, lower_asked, upper_asked, both_asked, both_done}

-- ---- the code by the tests one after the other
module _ (left : ℕ) (x y : ℤ) where
  centre_bits : left ≡ 0 → {bits : ℕ} → bits ≡ value_code true x y → bits ≡ value_code (eqb left 0) x y
  centre_bits z e = rw (eq-eqb left 0 z) e

  black_bits_lem : (left ≡ 0 → ⊥) → le_z (pos 0) x ≡ true → 1 ≡ value_code (eqb left 0) x y
  black_bits_lem n t = rw (ne_eqb left 0 n, t) refl

  white_bits_lem : (left ≡ 0 → ⊥) → le_z (pos 0) x ≡ false → le_z y (pos 0) ≡ true → 2 ≡ value_code (eqb left 0) x y
  white_bits_lem n t f = rw (ne_eqb left 0 n, t, f) refl

  open_bits : (left ≡ 0 → ⊥) → le_z (pos 0) x ≡ false → le_z y (pos 0) ≡ false → 0 ≡ value_code (eqb left 0) x y
  open_bits n t f = rw (ne_eqb left 0 n, t, f) refl

-- ---- the values are small
module _ {steps : List ℤ} {left : ℕ} {x y : ℤ} (l : Lone steps left x y) where
  abbrev row : Halfspace
  row = row_at l.surfaces.rows l.row

  row_small : SmallHalfspace row
  row_small = rows_small l.scene l.row l.named

  small : SmallExtreme x × SmallExtreme y
  small = rw (l.least_is, l.greatest_is) (standing_small (ok l.scene).few_axes l.standing row row_small)

  least_held : held x ≡ x
  least_held = (extreme_near small.0).same

  greatest_held : held y ≡ y
  greatest_held = (extreme_near small.1).same

  pub values_small : SmallExtreme (held x) × SmallExtreme (held y)
  values_small = rw (least_held, greatest_held) small

  -- as the machine holds them
  pub lone_held : Lone steps left (held x) (held y)
  lone_held =
      record {
        universe = l.universe;
        surfaces = l.surfaces;
        scene = l.scene;
        low = l.low;
        side = l.side;
        standing = l.standing;
        row = l.row;
        named = l.named;
        moves = l.moves;
        least_is = least_held ∙ l.least_is;
        greatest_is = greatest_held ∙ l.greatest_is;
      }

-- ---- a block
module _ {steps : List ℤ} {turned : Bool} {left : ℕ} {x y : ℤ} {looked : List ℕ} {at : ℕ} (job : LoneBlock steps turned left x y looked at) where
  abbrev l : Lone steps left x y
  l = job.lone

  abbrev s : Surface
  s = halfspace l.row

  step : Stepping l.surfaces l.universe.axes l.low l.side 0 0 false (eqb left 0)
  step = step_same l.scene refl l.standing (λ e. eqb-true left 0 e)

  own : value_code (eqb left 0) (held x) (held y) ≡ bits_of (own_mark (eqb left 0) l.surfaces (lone_block l) s)
  unfolding step step_same stepping
  own =
      ap₂ (value_code (eqb left 0)) (least_held l ∙ l.least_is) (greatest_held l ∙ l.greatest_is)
      ∙ row_own step (eqb left 0) (λ e. eqb-true left 0 e) l.row

  -- by the tests one after the other
  abbrev Leaf : ℕ → ℕ → Type 0
  Leaf packed bits = packed ≡ (at + 1) * 256 + symbol_of_bits (turned_code turned bits)

  closed_by : {bits : ℕ} → bits ≡ value_code (eqb left 0) (held x) (held y) → (bits ≡ 0 → ⊥) → {packed : ℕ} → Leaf packed bits → (m : Bool)
      (out : List ℕ) → LoneBlockLaid job m out packed out looked
  closed_by e = single_closed job.asked (e ∙ own)

  pub centre_closed : left ≡ 0 → {bits packed : ℕ} → bits ≡ value_code true (held x) (held y) → Leaf packed bits → (m : Bool) (out : List ℕ) →
      LoneBlockLaid job m out packed out looked
  centre_closed z e = closed_by (centre_bits left (held x) (held y) z e) (λ f. tested_decided (le_z (pos 0) (held x +ℤ held y)) (sym e ∙ f))

  pub black_closed : (left ≡ 0 → ⊥) → le_z (pos 0) (held x) ≡ true → {packed : ℕ} → Leaf packed 1 → (m : Bool) (out : List ℕ) →
      LoneBlockLaid job m out packed out looked
  black_closed n t = closed_by (black_bits_lem left (held x) (held y) n t) (λ z. absurd (omega arith))

  pub white_closed : (left ≡ 0 → ⊥) → le_z (pos 0) (held x) ≡ false → le_z (held y) (pos 0) ≡ true → {packed : ℕ} → Leaf packed 2 → (m : Bool)
      (out : List ℕ) → LoneBlockLaid job m out packed out looked
  white_closed n t f = closed_by (white_bits_lem left (held x) (held y) n t f) (λ z. absurd (omega arith))

  module _ (n : left ≡ 0 → ⊥) (t : le_z (pos 0) (held x) ≡ false) (f : le_z (held y) (pos 0) ≡ false) where
    open_own : 0 ≡ bits_of (own_mark (eqb left 0) l.surfaces (lone_block l) s)
    open_own = open_bits left (held x) (held y) n t f ∙ own

    pub open_asked : LoneHalves steps turned left (held x) (held y) looked at
    unfolding lone_held
    open_asked = record { lone = lone_held l; asked = single_halves job.asked open_own refl }

    pub open_done : (m : Bool) (out : List ℕ) {packed : ℕ} {out' looked' : List ℕ} →
        LoneHalvesLaid open_asked m out packed out' looked' → LoneBlockLaid job m out packed out' looked'
    unfolding open_asked lone_held
    open_done m out d = single_opened job.asked open_own refl m out d

-- ---- both halves
module _ {steps : List ℤ} {turned : Bool} {left : ℕ} {x y : ℤ} {looked : List ℕ} {at : ℕ} (job : LoneHalves steps turned left x y looked at) where
  abbrev l₀ : Lone steps left x y
  l₀ = job.lone

  abbrev u : Universe
  u = l₀.universe

  abbrev h : Halfspace
  h = row_at l₀.surfaces.rows l₀.row

  abbrev n : ℕ
  n = left - 1

  abbrev axis : ℕ
  axis = axis_at u (levels u - suc n)

  standing' : Standing u (suc n) l₀.low l₀.side
  standing' = standing_suc l₀.scene l₀.standing refl job.asked

  same_block : lone_block l₀ ≡ block_left u (suc n) l₀.low
  same_block = block_suc l₀.scene l₀.standing refl job.asked

  pub level_fits : n < most_levels
  level_fits = level_in l₀.scene l₀.standing refl job.asked

  pub tally_fits : get_or looked 0 0 + 2 < 2 ^ 64
  tally_fits = two_fit l₀.scene l₀.standing refl job.asked

  -- the amount
  abbrev half : ℕ
  half = half_side l₀.side axis

  amount_is : number_at steps n ≡ h.coefficient axis *ℤ pos half
  amount_is =
      l₀.moves.amount n (omega arith) (omega (arith, job.asked.some))
      ∙ ap (λ (k : ℕ). h.coefficient axis *ℤ pos k) (sym (half_is u l₀.scene.accepted_universe n l₀.low l₀.side standing' axis refl))

  by_small : SmallAmount (number_at steps n)
  by_small =
      rw amount_is
      (amount_small
      ((row_small l₀).coefficient axis (axis_few u l₀.scene.accepted_universe n l₀.low l₀.side standing' axis refl))
      (record { most = omega (arith, (l₀.standing.inside axis).most) }))

  by_held : held (number_at steps n) ≡ number_at steps n
  by_held = (near (record { most = by_small.most }) tt).same

  pub moves_asked : SmallAmount (held (number_at steps n)) × (SmallExtreme (held x) × SmallExtreme (held y))
  moves_asked = (rw by_held by_small, values_small l₀)

  fewer : Steps u h 0 n steps
  fewer = record { places = l₀.moves.places; amount = λ k p q. l₀.moves.amount k p (omega arith) }

  -- the values over the halves
  module _ {v w : ℤ} (e : MovedBy (held (number_at steps n)) false (held x) (held y) v w) where
    lower_values : (v ≡ least h (block_left u n l₀.low)) × (w ≡ greatest h (block_left u n l₀.low))
    unfolding step_low stepping
    lower_values =
        let m = (step_low l₀.scene refl standing' refl {centre = false} (λ f. absurd (not_so f)) refl).moves l₀.row in
        let o = e.over (h.coefficient axis) half (by_held ∙ amount_is) in (
          o.0 ∙ ap (moved_least false (h.coefficient axis) half) (least_held l₀ ∙ l₀.least_is ∙ ap (least h) same_block) ∙ sym m.0,
          o.1 ∙ ap (moved_greatest false (h.coefficient axis) half) (greatest_held l₀ ∙ l₀.greatest_is ∙ ap (greatest h) same_block) ∙ sym m.1,
        )

    lower_lone : Lone steps n v w
    lower_lone =
        record {
          universe = u;
          surfaces = l₀.surfaces;
          scene = l₀.scene;
          low = l₀.low;
          side = halved_sides l₀.side axis;
          standing = lower_stands l₀.scene l₀.standing refl job.asked;
          row = l₀.row;
          named = l₀.named;
          moves = fewer;
          least_is = lower_values.0;
          greatest_is = lower_values.1;
        }

  module _ {v w : ℤ} (e : MovedBy (held (number_at steps n)) true (held x) (held y) v w) where
    upper_values : (v ≡ least h (block_left u n (high_lows l₀.low l₀.side axis)))
        × (w ≡ greatest h (block_left u n (high_lows l₀.low l₀.side axis)))
    unfolding step_high stepping
    upper_values =
        let m = (step_high l₀.scene refl standing' refl {centre = false} (λ f. absurd (not_so f)) refl).moves l₀.row in
        let o = e.over (h.coefficient axis) half (by_held ∙ amount_is) in (
          o.0 ∙ ap (moved_least true (h.coefficient axis) half) (least_held l₀ ∙ l₀.least_is ∙ ap (least h) same_block) ∙ sym m.0,
          o.1 ∙ ap (moved_greatest true (h.coefficient axis) half) (greatest_held l₀ ∙ l₀.greatest_is ∙ ap (greatest h) same_block) ∙ sym m.1,
        )

    upper_lone : Lone steps n v w
    upper_lone =
        record {
          universe = u;
          surfaces = l₀.surfaces;
          scene = l₀.scene;
          low = high_lows l₀.low l₀.side axis;
          side = halved_sides l₀.side axis;
          standing = upper_stands l₀.scene l₀.standing refl job.asked;
          row = l₀.row;
          named = l₀.named;
          moves = fewer;
          least_is = upper_values.0;
          greatest_is = upper_values.1;
        }

  -- the halves, one behind the other
  abbrev looked₁ : List ℕ
  looked₁ = set looked 0 (get_or looked 0 0 + 2)

  module _ {v w : ℤ} (e : MovedBy (held (number_at steps n)) false (held x) (held y) v w) where
    pub lower_part_lem : LoneBlock steps turned n (held v) (held w) looked₁ (at + 1)
    unfolding lower_lone lone_held
    lower_part_lem = record { lone = lone_held (lower_lone e); asked = lower_asked l₀.scene l₀.standing refl job.asked }

    -- the low half is laid
    module _ (m : Bool) (out : List ℕ) {packed₁ : ℕ} {out₁ looked₂ : List ℕ} (laid₁ : LoneBlockLaid lower_part_lem m out packed₁ out₁ looked₂) where
      abbrev Lower : Type 0
      Lower = SingleBlockLaid l₀.surfaces turned (halfspace l₀.row) n (block_left u n l₀.low) looked₁ (at + 1) m out packed₁ out₁ looked₂

      lower : Lower
      unfolding lower_part_lem lower_lone lone_held
      lower = laid₁

      module _ {v' w' : ℤ} (e' : MovedBy (held (number_at steps n)) true (held x) (held y) v' w') where
        pub upper_part_lem : LoneBlock steps turned n (held v') (held w') looked₂ (packed₁ / 256)
        unfolding upper_lone lone_held
        upper_part_lem = record { lone = lone_held (upper_lone e'); asked = upper_asked l₀.scene l₀.standing refl job.asked m out lower }

        -- the high half is laid too
        module _ {packed₂ : ℕ} {out₂ looked₃ : List ℕ} (laid₂ : LoneBlockLaid upper_part_lem m out₁ packed₂ out₂ looked₃) where
          abbrev Upper : Type 0
          Upper = SingleBlockLaid l₀.surfaces turned (halfspace l₀.row) n (block_left u n (high_lows l₀.low l₀.side axis)) looked₂ (packed₁ / 256) m
              out₁ packed₂ out₂ looked₃

          upper : Upper
          unfolding upper_part_lem upper_lone lone_held
          upper = laid₂

          pub join_asked : (at + 1 < end_limit) × (packed₂ / 256 < end_limit)
          join_asked = both_asked l₀.scene l₀.standing refl job.asked m out lower upper

          pub parts_done : {packed : ℕ} {out₃ : List ℕ} → packed ≡ joined_packed m at (packed₁ % 256) (packed₂ % 256) (packed₂ / 256) →
              out₃ ≡ joined_out m out₂ at (packed₁ % 256) (packed₁ / 256) (packed₂ % 256) → LoneHalvesLaid job m out packed out₃ looked₃
          parts_done p q = both_done l₀.scene l₀.standing refl job.asked m out lower upper p q
