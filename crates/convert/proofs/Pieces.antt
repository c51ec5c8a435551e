-- Laying the shape of a block, merged or as it is: a leaf is held back; halves that are leaves of one colour are held back as one where shapes are merged, else
-- `(` and what was held back of the halves is written.
use Prim.Native.Nat.{ℕ, suc, ◌+◌, ◌-◌, ◌<◌}
use mathlib.Core.Path.{◌≡◌, refl, sym, ap, ◌∙◌}
use mathlib.Core.Bool.{Bool, true, false, cond}
use mathlib.Core.List.{List}
use native.Mathlib.Omega.{arith}
use lib.IntN.{ℤ}
use Rattle.universe.specs.declared.Universe.{Universe}
use Rattle.bintree.specs.declared.Colour.TheVariants.{White, Black}
use Rattle.bintree.specs.Shape.{Shape, leaf, halved, size}
use Rattle.bintree.specs.Walks.{leaf_symbol, joined_halves, laid}
use Rattle.bintree.proofs.Lays.{leaf_laid, apart_laid}
use Rattle.csg.specs.Surfaces.{Surfaces}
use Rattle.convert.specs.declared.lay.Piece.{Piece}
use Rattle.convert.specs.Codes.{bits_of}
use Rattle.convert.specs.Blocks.{Ready, trees_of, block_left, halved_sides, high_lows, judged}
use Rattle.convert.specs.Shapes.{shape_of, shaped, laid_shape, symbol_of_bits, piece_of, is_one, joined_piece, joined_room}
use Rattle.convert.specs.Shapes.{held_unit, end_limit, packed, unpacked, Laying, Halving}
use Rattle.convert.proofs.Shapes.{shaped_leaf, shaped_size, shaped_one, shaped_apart, closed}

piece_eq : {a b e f : ℕ} → a ≡ b → e ≡ f → ◌≡◌ {A = Piece} (record { held = a; end = e }) (record { held = b; end = f })
piece_eq p q = λ i. record { held = p i; end = q i }

-- ---- a piece as one number, and back
held_byte : (s : Shape) → leaf_symbol s < held_unit
unfolding leaf_symbol
held_byte (leaf Black) = omega arith
held_byte (leaf White) = omega arith
held_byte (halved a b) = omega arith

pub unpacked_is : (at : ℕ) (s : Shape) {number : ℕ} {piece : Piece} → number ≡ packed (piece_of at s) → piece ≡ unpacked number → piece ≡ piece_of at s
unpacked_is at s e f = f ∙ rw e (piece_eq (omega (arith, held_byte s)) (omega (arith, held_byte s)))

-- ---- two pieces joined, by the test of what was held back of them
module _ (m : Bool) (out : List ℕ) (at : ℕ) (below above : Piece) {f : Bool} (e : f ≡ is_one m below.held above.held) where
  pub joined_one : f ≡ true →
      (◌≡◌ {A = Piece} (record { held = below.held; end = at + 1 }) (joined_piece m at below above)) × (out ≡ joined_room m out at below above)
  unfolding joined_piece joined_room
  joined_one t = rw (sym e ∙ t) (refl, refl)

  pub joined_apart : {now : List ℕ} → f ≡ false → now ≡ joined_halves out at below.held below.end above.held →
      (◌≡◌ {A = Piece} (record { held = 0; end = above.end }) (joined_piece m at below above)) × (now ≡ joined_room m out at below above)
  unfolding joined_piece joined_room
  joined_apart t g = rw (sym e ∙ t) (refl, g)

-- ---- a block that is judged BLACK or WHITE is held back
pub piece_closed : {u : Universe} {surfaces : Surfaces} {first second : List ℕ} → Ready u surfaces first second →
    (m : Bool) (left : ℕ) (low : List ℕ) {x y : ℕ} →
    x ≡ bits_of (judged surfaces (trees_of surfaces first second) left (block_left u left low)) → (x ≡ 0 → ⊥) → y ≡ symbol_of_bits x → (out : List ℕ) (at : ℕ) →
    (◌≡◌ {A = Piece} (record { held = y; end = at + 1 }) (piece_of at (laid_shape m u surfaces first second left low)))
    × (out ≡ laid out at (laid_shape m u surfaces first second left low))
unfolding leaf_symbol size laid
piece_closed r m left low {x} e n y out at =
    let w = closed r left low x e n in
    rw (w.1, shaped_leaf m w.0) (piece_eq (y ∙ w.2) refl, refl)

-- ---- both halves of a block
module _ {u : Universe} {surfaces : Surfaces} {first second axes turns : List ℕ} {left : ℕ} {low side : List ℕ} {leasts greatests : List ℤ}
    {amounts : List ℕ} {axis at : ℕ} (o : Halving u surfaces first second axes turns left low side leasts greatests amounts axis at) (m : Bool) where
  abbrev low_part : Shape
  low_part = shape_of u surfaces first second (left - 1) low

  abbrev high_part : Shape
  high_part = shape_of u surfaces first second (left - 1) (high_lows low side axis)

  abbrev whole : Shape
  whole = shaped m (shape_of u surfaces first second left low)

  whole_is : whole ≡ shaped m (halved low_part high_part)
  whole_is = ap (shaped m) o.shape

  -- the low half is laid: its piece
  module _ {below : Piece} (p : below ≡ piece_of (at + 1) (shaped m low_part)) {high-low : List ℕ} (high-lows : high-low ≡ high_lows low side axis) where
    -- the places go on: the second half begins no later than the first would end unmerged
    pub upper_lays : Laying u surfaces first second axes (left - 1) (high_lows low side axis) (halved_sides side axis) below.end
    upper_lays = o.upper below.end (omega (arith, ap (λ (x : Piece). x.end) p, shaped_size m low_part))

    -- the high half is laid too: joined, the two are the whole
    module _ (out one two : List ℕ) {above : Piece} (q : one ≡ laid out (at + 1) (shaped m low_part))
        (r : above ≡ piece_of below.end (laid_shape m u surfaces first second (left - 1) high-low))
        (s : two ≡ laid one below.end (laid_shape m u surfaces first second (left - 1) high-low)) where
      low_held : below.held ≡ leaf_symbol (shaped m low_part)
      low_held = ap (λ (x : Piece). x.held) p

      low_end : below.end ≡ at + 1 + size (shaped m low_part)
      low_end = ap (λ (x : Piece). x.end) p

      above_is : above ≡ piece_of below.end (shaped m high_part)
      above_is = rw high-lows at r

      two_is : two ≡ laid one below.end (shaped m high_part)
      two_is = rw high-lows at s

      high_held : above.held ≡ leaf_symbol (shaped m high_part)
      high_held = ap (λ (x : Piece). x.held) above_is

      high_end : above.end ≡ below.end + size (shaped m high_part)
      high_end = ap (λ (x : Piece). x.end) above_is

      one_is : {f : Bool} → f ≡ is_one m below.held above.held → f ≡ is_one m (leaf_symbol (shaped m low_part)) (leaf_symbol (shaped m high_part))
      one_is e = rw (low_held, high_held) at e

      alike : true ≡ is_one m below.held above.held →
          (◌≡◌ {A = Piece} (record { held = below.held; end = at + 1 }) (piece_of at whole)) × (two ≡ laid out at whole)
      unfolding is_one leaf_symbol size
      alike e =
          let w = shaped_one m low_part high_part (sym (one_is e)) in
          let n : whole ≡ leaf w.0 = whole_is ∙ w.3 in (
            piece_eq (low_held ∙ ap leaf_symbol w.1 ∙ sym (ap leaf_symbol n)) (sym (ap (λ (x : Shape). at + size x) n)),
            two_is ∙ leaf_laid one below.end w.0 w.2 ∙ q ∙ leaf_laid out (at + 1) w.0 w.1 ∙ sym (leaf_laid out at w.0 n),
          )

      apart : {three : List ℕ} → false ≡ is_one m below.held above.held → three ≡ joined_halves two at below.held below.end above.held →
          (◌≡◌ {A = Piece} (record { held = 0; end = above.end }) (piece_of at whole)) × (three ≡ laid out at whole)
      unfolding is_one leaf_symbol size
      apart {three} e j =
          let n : whole ≡ halved (shaped m low_part) (shaped m high_part) = whole_is ∙ shaped_apart m low_part high_part (sym (one_is e)) in
          let f : above.end ≡ at + suc (size (shaped m low_part) + size (shaped m high_part)) = omega (arith, low_end, high_end) in
          let l = apart_laid out one two three at below.end below.held above.held (shaped m low_part) (shaped m high_part) in
          rw n (piece_eq refl f, l q two_is low_end low_held high_held j)

      pub piece_joined : {piece : Piece} {three : List ℕ} → (piece ≡ joined_piece m at below above) × (three ≡ joined_room m two at below above) →
          (piece ≡ piece_of at whole) × (three ≡ laid out at whole)
      unfolding joined_piece joined_room
      piece_joined {piece} {three} e = by (is_one m below.held above.held) refl e.0 e.1
        where
          by : (f : Bool) → f ≡ is_one m below.held above.held →
              piece ≡ cond f (record { held = below.held; end = at + 1 }) (record { held = 0; end = above.end }) →
              three ≡ cond f two (joined_halves two at below.held below.end above.held) → (piece ≡ piece_of at whole) × (three ≡ laid out at whole)
          by true f g j = let w = alike f in (g ∙ w.0, j ∙ w.1)
          by false f g j = let w = apart f j in (g ∙ w.0, w.1)

      -- and its end fits
      pub joined_fits : {piece : Piece} {three : List ℕ} → (piece ≡ joined_piece m at below above) × (three ≡ joined_room m two at below above) →
          piece.end < end_limit
      joined_fits e = omega (arith, ap (λ (x : Piece). x.end) (piece_joined e).0, shaped_size m (shape_of u surfaces first second left low), o.fits)
