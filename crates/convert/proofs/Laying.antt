-- Laying the halves of a block, by what the calls of a step hand over: what is carried is moved to the block, both halves are judged, each is laid, and what is
-- carried is moved back. Every law takes what has been handed over as equations with what stood before.
use Prim.Native.Nat.{ℕ, zero, suc, ◌+◌, ◌-◌, ◌/◌, ◌%◌, ◌<◌}
use mathlib.Core.Path.{◌≡◌, refl, ap, ◌∙◌}
use mathlib.Core.List.{List}
use native.Mathlib.Omega.{arith}
use lib.IntN.{ℤ}
use lib.ListN.{length, get_or, set}
use Rattle.lemmas.proofs.Stores.{restored}
use Rattle.universe.specs.declared.Universe.{Universe}
use Rattle.universe.specs.Universe.{most_axes, most_levels}
use Rattle.csg.specs.Halfspace.{Mark, decided, undecided}
use Rattle.bintree.specs.declared.Colour.TheVariants.{White, Black}
use Rattle.csg.specs.Surfaces.{Surfaces}
use Rattle.convert.specs.Codes.{bits_of, paired, pair_unit}
use Rattle.convert.specs.Slots.{slots_of, most_slots, fall_place, rise_place, raised, lowered, halved_by, Movable, Amounts}
use Rattle.convert.specs.Blocks.{Ready, Halved, Carried, Judging, trees_of, block_left, whole_sides, turns_left, axis_left}
use Rattle.convert.specs.Blocks.{half_side, halved_sides, high_lows, judged, codes_of}
use Rattle.convert.specs.Shapes.{Laying, Half, Halving}
use Rattle.convert.proofs.Slots.{lowered_raised, raised_lowered}
use Rattle.convert.proofs.Shapes.{halving}
use Rattle.convert.proofs.Carrying.{halves_judging, turned, moved_carried, carried_least, carried_greatest}

-- ---- a half, by what is judged of it
module _ {u : Universe} {surfaces : Surfaces} {first second axes turns : List ℕ} {left : ℕ} {lows highs side : List ℕ} {leasts greatests : List ℤ}
    {amounts : List ℕ}
    {one other times at mark : ℕ} where
  pub half_of : Judging u surfaces first second left lows highs side leasts greatests amounts one other times →
      Laying u surfaces first second axes left lows side at →
      mark ≡ bits_of (judged surfaces (trees_of surfaces first second) left (block_left u left lows)) → Halved u turns →
      Amounts u.axes surfaces.rows (slots_of first second) (whole_sides u) amounts → length leasts ≡ most_slots → length greatests ≡ most_slots →
      Half u surfaces first second axes turns left lows side leasts greatests amounts one other times at mark
  half_of j l e d m p q = record {
    laying = l;
    told = e;
    counted = d;
    least_moves = j.least_moves;
    greatest_moves = j.greatest_moves;
    least_places = p;
    greatest_places = q;
    carried = moved_carried j m p q;
  }

-- ---- a half: it is gone to, and left
module _ {u : Universe} {surfaces : Surfaces} {first second axes turns : List ℕ} {left : ℕ} {low side : List ℕ} {leasts greatests : List ℤ} {amounts : List ℕ}
    {one other times at mark slots : ℕ} (h : Half u surfaces first second axes turns left low side leasts greatests amounts one other times at mark)
    (n : slots ≡ length (slots_of first second)) where
  module _ {low₁ high₁ : List ℤ} (p : low₁ ≡ raised (halved_by times amounts) one slots leasts)
      (q : high₁ ≡ lowered (halved_by times amounts) other slots greatests) where
    gone : Carried u surfaces first second left low low₁ high₁ amounts
    gone = rw (p, q, n) h.carried

    pub half_halving : mark ≡ 0 → Halving u surfaces first second axes turns left low side low₁ high₁ amounts (axis_left axes left) at
    half_halving z = halving h.laying h.counted gone h.told z

    module _ {low₂ high₂ : List ℤ} (m : (low₂ ≡ low₁) × (high₂ ≡ high₁)) where
      pub back_asks : Movable low₂ amounts one times slots × Movable high₂ amounts other times slots
      back_asks =
          let r = h.laying.ready in
          let s = h.laying.standing in
          let a = h.least_moves in
          let b = h.greatest_moves in
          rw (m.0, m.1, n) (
            record { few = a.few; few_times = a.few_times; room = a.room; value = carried_least r s gone; amount = a.amount },
            record { few = b.few; few_times = b.few_times; room = b.room; value = carried_greatest r s gone; amount = b.amount },
          )

      pub back_is : {low₃ high₃ : List ℤ} →
          (low₃ ≡ lowered (halved_by times amounts) one slots low₂) × (high₃ ≡ raised (halved_by times amounts) other slots high₂) →
          (low₃ ≡ leasts) × (high₃ ≡ greatests)
      back_is e = (
        e.0 ∙ rw (m.0, p) (lowered_raised (halved_by times amounts) one slots leasts (omega (arith, n, h.least_moves.few, h.least_places))),
        e.1 ∙ rw (m.1, q) (raised_lowered (halved_by times amounts) other slots greatests (omega (arith, n, h.least_moves.few, h.greatest_places))),
      )

-- a half that is undecided has a level below it, and an axis across which it is halved
pub half_room : {u : Universe} {surfaces : Surfaces} {first second axes turns : List ℕ} {left : ℕ} {low side : List ℕ} {leasts greatests : List ℤ}
    {amounts : List ℕ} {one other times at : ℕ} → Half u surfaces first second axes turns left low side leasts greatests amounts one other times at 0 →
    (0 < left) × ((left - 1 < most_levels) × (axis_left axes left < most_axes))
half_room h = let o = half_halving h refl refl refl refl in (omega (arith, o.some), (o.place, o.within))

-- ---- both halves
-- the two codes of a pair
bits_few : (m : Mark) → bits_of m < pair_unit
bits_few (decided Black) = omega arith
bits_few (decided White) = omega arith
bits_few undecided = omega arith

first_code : (m w : Mark) {codes : ℕ} → codes ≡ paired (bits_of m) (bits_of w) → codes % pair_unit ≡ bits_of m
first_code m w e = omega (arith, e, bits_few m)

second_code : (m w : Mark) {codes : ℕ} → codes ≡ paired (bits_of m) (bits_of w) → codes / pair_unit ≡ bits_of w
second_code m w e = omega (arith, e, bits_few m)

-- a block judged twice is judged by either code
pub whole_told : {u : Universe} {surfaces : Surfaces} {first second : List ℕ} → Ready u surfaces first second → (left : ℕ) (low : List ℕ) {codes : ℕ} →
    codes ≡ codes_of surfaces (trees_of surfaces first second) left (block_left u left low) (block_left u left low) →
    codes % pair_unit ≡ bits_of (judged surfaces (trees_of surfaces first second) left (block_left u left low))
whole_told {u} {surfaces} {first} {second} r left low e =
    let m = judged surfaces (trees_of surfaces first second) left (block_left u left low) in
    first_code m m e

-- both halves can be judged, one level on
judging : {u : Universe} {surfaces : Surfaces} {first second axes turns : List ℕ} {low side : List ℕ} {leasts greatests : List ℤ} {amounts : List ℕ}
    {axis at : ℕ}
    (left : ℕ) → Halving u surfaces first second axes turns left low side leasts greatests amounts axis at →
    Judging u surfaces first second (left - 1) low (high_lows low side axis) (halved_sides side axis) leasts greatests amounts (fall_place axis) (rise_place axis)
    (turns_left turns left)
judging zero o = absurd (omega (arith, o.some))
judging {low = low} {side = side} {axis = axis} (suc n) o =
    let p : suc n - 1 ≡ n = omega arith in
    rw p (halves_judging o.ready o.counted n low side o.standing axis o.turn o.carried)

module _ {u : Universe} {surfaces : Surfaces} {first second axes turns : List ℕ} {left : ℕ} {low side : List ℕ} {leasts greatests : List ℤ}
    {amounts : List ℕ} {axis at : ℕ}
    (o : Halving u surfaces first second axes turns left low side leasts greatests amounts axis at) where
  module _ {high : List ℕ} {fall rise : ℕ} (q : high ≡ high_lows low side axis) (f : fall ≡ fall_place axis) (g : rise ≡ fall + most_slots) where
    rise_is : rise ≡ rise_place axis
    rise_is = g ∙ ap (λ (k : ℕ). k + most_slots) f

    pub judge_asks : Judging u surfaces first second (left - 1) low high (halved_sides side axis) leasts greatests amounts fall rise (turns_left turns left)
    judge_asks = rw (q, f, rise_is) (judging left o)

    module _ {codes : ℕ}
        (e : codes ≡ codes_of surfaces (trees_of surfaces first second) (left - 1) (block_left u (left - 1) low) (block_left u (left - 1) high)) where
      abbrev low_mark : Mark
      low_mark = judged surfaces (trees_of surfaces first second) (left - 1) (block_left u (left - 1) low)

      abbrev high_mark : Mark
      high_mark = judged surfaces (trees_of surfaces first second) (left - 1) (block_left u (left - 1) high)

      pub low_half : Half u surfaces first second axes turns (left - 1) low (halved_sides side axis) leasts greatests amounts fall rise
          (turns_left turns left) (at + 1)
          (codes % pair_unit)
      low_half =
          let c = o.carried in
          half_of judge_asks o.lower (first_code low_mark high_mark e) o.counted c.moves c.least_places c.greatest_places

      -- after the low half all is as it was
      module _ {side₁ : List ℕ} {low₁ high₁ : List ℤ} (k : side₁ ≡ halved_sides side axis) (m : (low₁ ≡ leasts) × (high₁ ≡ greatests)) where
        pub high_half : {middle : ℕ} → Laying u surfaces first second axes (left - 1) (high_lows low side axis) (halved_sides side axis) middle →
            Half u surfaces first second axes turns (left - 1) high side₁ low₁ high₁ amounts rise fall (turns_left turns left) middle (codes / pair_unit)
        high_half l =
            let c = o.carried in
            rw (k, m.0, m.1) (half_of (turned judge_asks) (rw q l) (second_code low_mark high_mark e) o.counted c.moves c.least_places
            c.greatest_places)

        pub side_back : {side₂ : List ℕ} → side₂ ≡ side₁ → set side₂ axis (get_or side axis 0) ≡ side
        side_back e₂ = rw (e₂, k) (restored side axis (half_side side axis))
