-- The laws of `scale`, each on what the code has in hand: x, the limit l, and n, the whole number that 16·x was cut to, which are read back from
-- their bits. A test that comes out otherwise than for what is taken refuses x; and where all pass, x is taken and n is 16·x.
use Rattle.std.proofs.Common.{◌≡◌, ◌^◌, ◌<◌, true, false, Some, None, T, ℤ, pos, negsuc, ◌-ℤ◌, neg_ℤ, sym, ap, ◌∙◌, subst, zero-le, le→leb, w64, SFits}
use lib.Signed.{mag, lt_z, le_z}
use lib.Ieee.{Float, binary64, mul, le, lt, eq, to_signed, of_int, fin}
use lib.Ieee.Casts.{to_signed_in}
use mir.ValLaws.{to_z-of_z}
use Rattle.standin.specs.Held.{is_limit, scaled_of}
use Rattle.lemmas.proofs.Whole.{le_lt_z, le_z_true, le_z_false, lt_lt_z}
use Rattle.standin.proofs.Sixteenths.{times16, over16, sound, refused, refused'}
use Rattle.standin.proofs.Held.{back, lower_is}

module _ (x : Float) (l : ℤ) (t : T (is_limit l)) where
  pub below_all : le (fin true 1 (pos 63)) (times16 x) ≡ false → None ≡ scaled_of x l
  below_all h = refused x l (le (fin true 1 (pos 63)) (times16 x)) t h (λ p. p.low)

  pub above_all : lt (times16 x) (fin false 1 (pos 63)) ≡ false → None ≡ scaled_of x l
  above_all h = refused x l (lt (times16 x) (fin false 1 (pos 63))) t h (λ p. p.high)

not_below : (l : ℤ) → T (is_limit l) → T (le_z (pos 0) l)
not_below (pos n) t = le→leb 0 n zero-le
not_below (negsuc n) t = absurd t

module _ (x : Float) (l n : ℤ) (t : T (is_limit l)) (f : SFits w64 l) (e : n ≡ to_signed 63 (times16 x)) where
  guess_is : back n ≡ to_signed 63 (times16 x)
  guess_is = to_z-of_z w64 n (record { sfits = subst (λ (z : ℤ). mag z < 2 ^ 63) (sym e) (to_signed_in 63 (times16 x)) }) ∙ e

  most_is : lt_z (back l) (back n) ≡ lt_z l (to_signed 63 (times16 x))
  most_is = rw (to_z-of_z w64 l f, guess_is)

  least_is : lt_z (back n) (back (pos 0 -ℤ back l)) ≡ lt_z (to_signed 63 (times16 x)) (neg_ℤ l)
  least_is = rw (lower_is l f (not_below l t), guess_is)

  pub too_large : le_z (back n) (back l) ≡ false → None ≡ scaled_of x l
  too_large h =
      let above : lt_z (back l) (back n) ≡ true = lt_lt_z {a = back l} {b = back n} (le_z_false _ _ h) in
      refused' x l (lt_z l (to_signed 63 (times16 x))) t (sym most_is ∙ above) (λ p. p.most)

  pub too_small : le_z (back (pos 0 -ℤ back l)) (back n) ≡ false → None ≡ scaled_of x l
  too_small h =
      let below : lt_z (back n) (back (pos 0 -ℤ back l)) ≡ true = lt_lt_z {a = back n} {b = back (pos 0 -ℤ back l)} (le_z_false _ _ h) in
      refused' x l (lt_z (to_signed 63 (times16 x)) (neg_ℤ l)) t (sym least_is ∙ below) (λ p. p.least)

  -- b is n as a float, to be taken over 16
  module _ (b : Float) (g : b ≡ of_int binary64 (back n)) where
    same_is : eq (mul binary64 b (fin false 1 (negsuc 3))) x ≡ eq (over16 (to_signed 63 (times16 x))) x
    same_is = rw (g, guess_is)

    pub not_the_same : eq (mul binary64 b (fin false 1 (negsuc 3))) x ≡ false → None ≡ scaled_of x l
    not_the_same h = refused x l (eq (over16 (to_signed 63 (times16 x))) x) t (sym same_is ∙ h) (λ p. p.same)

    pub the_same : le_z (back (pos 0 -ℤ back l)) (back n) ≡ true → le_z (back n) (back l) ≡ true
        → eq (mul binary64 b (fin false 1 (negsuc 3))) x ≡ true → Some (back n) ≡ scaled_of x l
    the_same i h j =
        let most : lt_z (back l) (back n) ≡ false = le_lt_z {a = back l} {b = back n} (le_z_true _ _ h) in
        let least : lt_z (back n) (back (pos 0 -ℤ back l)) ≡ false = le_lt_z {a = back n} {b = back (pos 0 -ℤ back l)} (le_z_true _ _ i) in
        ap Some guess_is ∙ sound x l (to_signed 63 (times16 x)) t (sym most_is ∙ most) (sym least_is ∙ least) (sym same_is ∙ j)
