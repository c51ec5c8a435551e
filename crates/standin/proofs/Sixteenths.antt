-- One number. x times 16, cut to a whole number n, is the number of sixteenths in x exactly where n over 16 is x again: if n is small, n / 16 is a
-- float, with no rounding, and if x is n / 16, then 16·x is n, with no rounding. All other floats fail one of the tests, and no other fact of
-- rounding is needed.
use Rattle.std.proofs.Common.{Some, None, ◌≡◌, ℕ, zero, suc, ◌+◌, ◌*◌, ◌/◌, ◌%◌, ◌^◌, ◌<◌, ◌≤◌, Bool, true, false, ◌&&◌, ◌||◌, T, eqb, ltb, leb, ◌⊎◌, ℤ, pos, negsuc, neg_ℤ, nat_abs, sym, refl, ap, ◌∙◌, subst, inl, inr, true≢false, zero-le, le_trans, lt_of_lt_of_le, le_of_suc-le-suc, not-suc-le-zero, lt_of_le_of_lt, add-zero, mul_assoc, mul-lt-mul_of_pos_right, mul-pos, div-add-mod', zero-mul, mul-one, mul_right_comm, mul-div_cancel, arith, lit<, lit≤, le→leb, eqb→eq, lt→ltb, leb→le, pow_mono, shl_lt, ltb-false, le-ltb}
use mathlib.Core.Bool.{beq}
use native.Mathlib.Nat.{eq_of_mul-eq-mul_right}
use native.Mathlib.Nat.{mul-mod_left}
use lib.Signed.{lt_z}
use lib.Ieee.{Float, nan, inf, fin, binary64, up, down, unlike, round, mul, lt, le, eq, of_int, to_signed, in_float}
use lib.Ieee.Fits.{down_pos, and_i, and_l, and_r, eq→eqb}
use lib.Ieee.Bits.{is_true}
use lib.Ieee.Exact.{HasValue, round_exact}
use lib.Ieee.Back.{round_whole, positive_back, negative_back}
use lib.Ieee.Scale.{round_same}
use Rattle.standin.specs.Sixteenths.{with_sign, sixteenths, is_taken}
use Rattle.standin.specs.Held.{is_limit, held, scaled_of}

-- 16·x and n / 16, as the code has them
abbrev pub times16 : Float → Float
times16 x = mul binary64 x (fin false 1 (pos 4))

abbrev pub over16 : ℤ → Float
over16 n = mul binary64 (of_int binary64 n) (fin false 1 (negsuc 3))

unlike_false : (s : Bool) → unlike s false ≡ s
unlike_false true = refl
unlike_false false = refl

-- if m · 2^e is n / 16, then times 16 it is n, rounded
times16_is : (s : Bool) (m : ℕ) (e : ℤ) (n : ℕ) → m * up e * 16 ≡ n * down e → times16 (fin s m e) ≡ round binary64 s n 1
unfolding mul
times16_is s m e n h =
    ap (λ (t : Bool). round binary64 t (m * up e * 16) (down e * 1)) (unlike_false s)
    ∙ round_same binary64 s (m * up e * 16) (down e * 1) n 1 (subst (λ (d : ℕ). 0 < d) (sym (mul-one (down e))) (down_pos e)) (lit< tt)
    (mul-one (m * up e * 16) ∙ h ∙ ap (λ (d : ℕ). n * d) (sym (mul-one (down e))))

-- n / 16 is a float
sixteenth_value : (s : Bool) (n : ℕ) → n < 2 ^ 53 → HasValue (round binary64 s n 16) s n 16
sixteenth_value s n h =
    round_exact binary64 s n 16 n 1070 (lit< tt) h
    (lt_of_lt_of_le (shl_lt 53 1070 h) (pow_mono {i = 1123} {j = 2098} (lit≤ tt)))
    (sym (mul_assoc n (2 ^ 1070) 16))

over16_of : (x : Float) (s : Bool) (n : ℕ) → n < 2 ^ 53 → HasValue x s n 1 → HasValue (mul binary64 x (fin false 1 (negsuc 3))) s n 16
unfolding mul
over16_of nan s n h v = absurd v
over16_of (inf t) s n h v = absurd v
over16_of (fin t p k) s n h v =
    let r : round binary64 (unlike t false) (p * up k * 1) (down k * 16) ≡ round binary64 s n 16 =
    ap (λ (b : Bool). round binary64 b (p * up k * 1) (down k * 16)) (unlike_false t ∙ v.0)
    ∙ round_same binary64 s (p * up k * 1) (down k * 16) n 16 (mul-pos (down_pos k) (lit< tt)) (lit< tt)
    (ap (λ (a : ℕ). a * 16) v.1 ∙ mul_assoc n (down k) 16) in
    subst (λ (y : Float). HasValue y s n 16) (sym r) (sixteenth_value s n h)

-- two fractions: P / D is n / 16, and M / E is the size of x
same_to_taken : (P D M E n : ℕ) → 0 < D → P * 16 ≡ n * D → P * E ≡ M * D → M * 16 ≡ n * E
same_to_taken P D M E n d h q =
    eq_of_mul-eq-mul_right D d (M * 16) (n * E)
    (mul_right_comm M 16 D ∙ ap (λ (a : ℕ). a * 16) (sym q) ∙ mul_right_comm P E 16 ∙ ap (λ (a : ℕ). a * E) h ∙ mul_right_comm n D E)

taken_to_same : (P D M E n : ℕ) → P * 16 ≡ n * D → M * 16 ≡ n * E → P * E ≡ M * D
taken_to_same P D M E n h q =
    eq_of_mul-eq-mul_right 16 (lit< tt) (P * E) (M * D)
    (mul_right_comm P E 16 ∙ ap (λ (a : ℕ). a * E) h ∙ mul_right_comm n D E ∙ ap (λ (a : ℕ). a * D) (sym q) ∙ mul_right_comm M 16 D)

zero_to_zero : (P D E n : ℕ) → 0 < D → 0 < E → P * 16 ≡ n * D → P * E ≡ 0 → n ≡ 0
zero_to_zero P D E n d e h q =
    let p : P ≡ 0 = eq_of_mul-eq-mul_right E e P 0 (q ∙ sym (zero-mul E)) in
    eq_of_mul-eq-mul_right D d n 0 (sym h ∙ ap (λ (x : ℕ). x * 16) p ∙ sym (zero-mul D))

zero_from_zero : (P D E n : ℕ) → P * 16 ≡ n * D → n ≡ 0 → P * E ≡ 0
zero_from_zero P D E n h q =
    let p : P ≡ 0 = eq_of_mul-eq-mul_right 16 (lit< tt) P 0 (h ∙ ap (λ (x : ℕ). x * D) q ∙ zero-mul D) in
    ap (λ (x : ℕ). x * E) p ∙ zero-mul E

-- the test of `is_taken` on the fraction a / d, with what it tells
abbrev pub test : ℕ → ℕ → ℕ → Bool
test a d limit = eqb (a * 16 % d) 0 && leb (a * 16 / d) limit

pub test_exact : (a d limit : ℕ) → T (test a d limit) → a * 16 ≡ (a * 16 / d) * d
test_exact a d limit t =
    let z : a * 16 % d ≡ 0 = eqb→eq (a * 16 % d) 0 (and_l (eqb (a * 16 % d) 0) (leb (a * 16 / d) limit) t) in
    sym (div-add-mod' (a * 16) d) ∙ ap (λ (r : ℕ). a * 16 / d * d + r) z ∙ add-zero (a * 16 / d * d)

pub test_le : (a d limit : ℕ) → T (test a d limit) → a * 16 / d ≤ limit
test_le a d limit t = leb→le (a * 16 / d) limit (and_r (eqb (a * 16 % d) 0) (leb (a * 16 / d) limit) t)

pub quotient_is : (a d n : ℕ) → 0 < d → a * 16 ≡ n * d → a * 16 / d ≡ n
quotient_is a d n p h = ap (λ (x : ℕ). x / d) h ∙ mul-div_cancel n p

pub test_of : (a d n limit : ℕ) → 0 < d → a * 16 ≡ n * d → n ≤ limit → test a d limit ≡ true
test_of a d n limit p h k =
    is_true (test a d limit)
    (and_i (eqb (a * 16 % d) 0) (leb (a * 16 / d) limit) (eq→eqb (ap (λ (x : ℕ). x % d) h ∙ mul-mod_left n d))
    (subst (λ (q : ℕ). T (leb q limit)) (sym (quotient_is a d n p h)) (le→leb n limit k)))

-- whole numbers by sign and size
abbrev negative? : ℤ → Bool
negative? (pos n) = false
negative? (negsuc n) = true

pub size_with_sign : (s : Bool) (n : ℕ) → nat_abs (with_sign s n) ≡ n
size_with_sign false n = refl
size_with_sign true zero = refl
size_with_sign true (suc n) = refl

over16_value : (n : ℤ) → nat_abs n < 2 ^ 53 → HasValue (over16 n) (negative? n) (nat_abs n) 16
unfolding of_int
over16_value (pos n) h = over16_of (round binary64 false n 1) false n h (round_whole binary64 false n (weaker n h))
  where
    weaker : (n : ℕ) → n < 2 ^ 53 → n ≤ 2 ^ 53
    weaker n h = omega arith
over16_value (negsuc n) h = over16_of (round binary64 true (suc n) 1) true (suc n) h (round_whole binary64 true (suc n) (weaker n h))
  where
    weaker : (n : ℕ) → suc n < 2 ^ 53 → suc n ≤ 2 ^ 53
    weaker n h = omega arith

-- what the two tests against the limit tell
within : (n : ℤ) (l : ℕ) → lt_z (pos l) n ≡ false → lt_z n (neg_ℤ (pos l)) ≡ false → nat_abs n ≤ l
within (pos n) l a b = omega (arith, ltb-false l n a)
within (negsuc n) zero a b = absurd (true≢false b)
within (negsuc n) (suc l) a b = omega (arith, ltb-false l n b)

-- the sign, by the library's equality of floats, which takes −0.0 for 0.0
sign_of : (n : ℤ) (s : Bool) (A : ℕ) → T (beq (negative? n) s || eqb A 0) → (A ≡ 0 → nat_abs n ≡ 0) → n ≡ with_sign s (nat_abs n)
sign_of (pos n) false A t h = refl
sign_of (pos n) true A t h = subst (λ (k : ℕ). pos k ≡ neg_ℤ (pos k)) (sym (h (eqb→eq A 0 t))) refl
sign_of (negsuc n) true A t h = refl
sign_of (negsuc n) false A t h = absurd (no n (h (eqb→eq A 0 t)))
  where
    no : (n : ℕ) → suc n ≡ 0 → ⊥
    no n e = omega arith

-- ---- what passes every test is taken

-- by what the two definitions say of x
pub taken_is : (x : Float) (l n : ℤ) → is_taken (nat_abs l) x ≡ true → sixteenths x ≡ n → Some n ≡ scaled_of x l
unfolding held
taken_is x l n t e = rw (t, e)

pub not_taken_is : (x : Float) (l : ℤ) → is_taken (nat_abs l) x ≡ false → None ≡ scaled_of x l
unfolding held
not_taken_is x l t = rw t

sound_fin : (b : Float) (n : ℤ) (s : Bool) (m : ℕ) (e : ℤ) (l : ℤ) → HasValue b (negative? n) (nat_abs n) 16 → nat_abs n ≤ nat_abs l
    → T (eq b (fin s m e)) → Some n ≡ scaled_of (fin s m e) l
unfolding eq sixteenths is_taken
sound_fin nan n s m e l v k t = absurd v
sound_fin (inf u) n s m e l v k t = absurd v
sound_fin (fin u p j) n s m e l v k t =
    let A = p * up j * down e in
    let B = m * up e * down j in
    let same : A ≡ B = eqb→eq A B (and_l (eqb A B) (beq u s || eqb A 0) t) in
    let sign : T (beq u s || eqb A 0) = and_r (eqb A B) (beq u s || eqb A 0) t in
    let g : m * up e * 16 ≡ nat_abs n * down e = same_to_taken (p * up j) (down j) (m * up e) (down e) (nat_abs n) (down_pos j) v.1 same in
    let zero? : A ≡ 0 → nat_abs n ≡ 0 = zero_to_zero (p * up j) (down j) (down e) (nat_abs n) (down_pos j) (down_pos e) v.1 in
    let w : n ≡ with_sign s (nat_abs n) = sign_of n s A (subst (λ (x : Bool). T (beq x s || eqb A 0)) v.0 sign) zero? in
    taken_is (fin s m e) l n (test_of (m * up e) (down e) (nat_abs n) (nat_abs l) (down_pos e) g k)
    (ap (with_sign s) (quotient_is (m * up e) (down e) (nat_abs n) (down_pos e) g) ∙ sym w)

sound_any : (b x : Float) (n l : ℤ) → HasValue b (negative? n) (nat_abs n) 16 → nat_abs n ≤ nat_abs l → T (eq b x) → Some n ≡ scaled_of x l
unfolding eq
sound_any nan x n l v k t = absurd v
sound_any (inf u) x n l v k t = absurd v
sound_any (fin u p j) nan n l v k t = absurd t
sound_any (fin u p j) (inf s) n l v k t = absurd t
sound_any (fin u p j) (fin s m e) n l v k t = sound_fin (fin u p j) n s m e l v k t

limit_of : (l : ℤ) → T (is_limit l) → (nat_abs l ≤ 65536) × (pos (nat_abs l) ≡ l)
limit_of (pos n) t = (leb→le n 65536 t, refl)
limit_of (negsuc n) t = absurd t

under : (n l : ℕ) → n ≤ l → l ≤ 65536 → n < 2 ^ 53
under n l h k = omega arith

pub sound : (x : Float) (l n : ℤ) → T (is_limit l) → lt_z l n ≡ false → lt_z n (neg_ℤ l) ≡ false → eq (over16 n) x ≡ true → Some n ≡ scaled_of x l
sound x l n t a b e =
    let L = limit_of l t in
    let w : nat_abs n ≤ nat_abs l = within n (nat_abs l) (ap (λ (q : ℤ). lt_z q n) L.1 ∙ a) (ap (λ (q : ℤ). lt_z n (neg_ℤ q)) L.1 ∙ b) in
    sound_any (over16 n) x n l (over16_value n (under (nat_abs n) (nat_abs l) w L.0)) w (subst T (sym e) tt)

-- ---- what is taken passes every test
pub record Passes (x : Float) (l : ℤ) : Type 0 where
  pub low : le (fin true 1 (pos 63)) (times16 x) ≡ true
  pub high : lt (times16 x) (fin false 1 (pos 63)) ≡ true
  pub most : lt_z l (to_signed 63 (times16 x)) ≡ false
  pub least : lt_z (to_signed 63 (times16 x)) (neg_ℤ l) ≡ false
  pub same : eq (over16 (to_signed 63 (times16 x))) x ≡ true

or_l : (a b : Bool) → T a → T (a || b)
or_l true b t = tt
or_l false b t = absurd t

-- the range of an i64: n = X / D is small, and 2^63 is large
inside : (X D n : ℕ) → X ≡ n * D → n ≤ 65536 → 0 < D → X < 2 ^ 63 * D
inside X D n e h d = subst (λ (x : ℕ). x < 2 ^ 63 * D) (sym e) (mul-lt-mul_of_pos_right (lt_of_le_of_lt h (lit< {n = 2 ^ 63} tt)) d)

apart : (D q : ℕ) → 0 < D → (0 < 2 ^ 63 * D + q) × (0 < q + 2 ^ 63 * D)
apart D q d = (omega arith, omega arith)

above_low : (y : Float) (s : Bool) (n : ℕ) → n ≤ 65536 → HasValue y s n 1 → T (le (fin true 1 (pos 63)) y)
unfolding le
above_low nan s n h v = absurd v
above_low (inf t) s n h v = absurd v
above_low (fin false p k) s n h v =
    or_l (ltb 0 (2 ^ 63 * down k + p * up k * 1)) (eq (fin true 1 (pos 63)) (fin false p k))
    (lt→ltb 0 (2 ^ 63 * down k + p * up k * 1) (apart (down k) (p * up k * 1) (down_pos k)).0)
above_low (fin true p k) s n h v =
    or_l (ltb (p * up k * 1) (2 ^ 63 * down k)) (eq (fin true 1 (pos 63)) (fin true p k))
    (lt→ltb (p * up k * 1) (2 ^ 63 * down k) (inside (p * up k * 1) (down k) n v.1 h (down_pos k)))

below_high : (y : Float) (s : Bool) (n : ℕ) → n ≤ 65536 → HasValue y s n 1 → T (lt y (fin false 1 (pos 63)))
unfolding lt
below_high nan s n h v = absurd v
below_high (inf t) s n h v = absurd v
below_high (fin false p k) s n h v = lt→ltb (p * up k * 1) (2 ^ 63 * down k) (inside (p * up k * 1) (down k) n v.1 h (down_pos k))
below_high (fin true p k) s n h v = lt→ltb 0 (p * up k * 1 + 2 ^ 63 * down k) (apart (down k) (p * up k * 1) (down_pos k)).1

-- the cut to a whole number
small : (n : ℕ) → n ≤ 65536 → n ≤ 2 ^ 53
small n h = omega arith

cut : (s : Bool) (n : ℕ) → n ≤ 65536 → to_signed 63 (round binary64 s n 1) ≡ with_sign s n
unfolding of_int in_float to_signed round
cut false n h = (positive_back binary64 63 n (le→leb n (2 ^ 53) (small n h)) (lt_of_le_of_lt h (lit< {n = 2 ^ 63} tt))).1
cut true zero h = refl
cut true (suc n) h = (negative_back binary64 63 n (le→leb (suc n) (2 ^ 53) (small (suc n) h)) (le_trans h (lit≤ {n = 2 ^ 63} tt))).1

-- the limit
most_of : (s : Bool) (n l : ℕ) → n ≤ l → lt_z (pos l) (with_sign s n) ≡ false
most_of false n l h = le-ltb l n h
most_of true zero l h = le-ltb l 0 h
most_of true (suc n) l h = refl

least_of_lem : (s : Bool) (n l : ℕ) → n ≤ l → lt_z (with_sign s n) (neg_ℤ (pos l)) ≡ false
least_of_lem false n zero h = le-ltb n 0 zero-le
least_of_lem false n (suc l) h = refl
least_of_lem true zero zero h = refl
least_of_lem true zero (suc l) h = refl
least_of_lem true (suc n) zero h = absurd (not-suc-le-zero h)
least_of_lem true (suc n) (suc l) h = le-ltb l n (le_of_suc-le-suc h)

-- back again
sign_same : (s : Bool) (n A : ℕ) → (n ≡ 0 → A ≡ 0) → T (beq (negative? (with_sign s n)) s || eqb A 0)
sign_same false n A h = tt
sign_same true zero A h = eq→eqb (h refl)
sign_same true (suc n) A h = tt

back_same : (b : Float) (s : Bool) (m : ℕ) (e : ℤ) (n : ℕ) → HasValue b (negative? (with_sign s n)) n 16 → m * up e * 16 ≡ n * down e → T (eq b (fin s m e))
unfolding eq
back_same nan s m e n v h = absurd v
back_same (inf u) s m e n v h = absurd v
back_same (fin u p j) s m e n v h =
    let A = p * up j * down e in
    let B = m * up e * down j in
    and_i (eqb A B) (beq u s || eqb A 0) (eq→eqb (taken_to_same (p * up j) (down j) (m * up e) (down e) n v.1 h))
    (subst (λ (x : Bool). T (beq x s || eqb A 0)) (sym v.0) (sign_same s n A (zero_from_zero (p * up j) (down j) (down e) n v.1)))

passes_fin : (s : Bool) (m : ℕ) (e : ℤ) (n l : ℕ) → m * up e * 16 ≡ n * down e → n ≤ l → l ≤ 65536 → Passes (fin s m e) (pos l)
passes_fin s m e n l h k b =
    let x = fin s m e in
    let N : n ≤ 65536 = le_trans k b in
    let y : times16 x ≡ round binary64 s n 1 = times16_is s m e n h in
    let v : HasValue (times16 x) s n 1 = subst (λ (f : Float). HasValue f s n 1) (sym y) (round_whole binary64 s n (small n N)) in
    let z : to_signed 63 (times16 x) ≡ with_sign s n = ap (to_signed 63) y ∙ cut s n N in
    let w : HasValue (over16 (with_sign s n)) (negative? (with_sign s n)) n 16 =
    subst (λ (a : ℕ). HasValue (over16 (with_sign s n)) (negative? (with_sign s n)) a 16) (size_with_sign s n)
    (over16_value (with_sign s n) (subst (λ (a : ℕ). a < 2 ^ 53) (sym (size_with_sign s n)) (under n l k b))) in
    record {
      low = is_true (le (fin true 1 (pos 63)) (times16 x)) (above_low (times16 x) s n N v);
      high = is_true (lt (times16 x) (fin false 1 (pos 63))) (below_high (times16 x) s n N v);
      most = ap (λ (q : ℤ). lt_z (pos l) q) z ∙ most_of s n l k;
      least = ap (λ (q : ℤ). lt_z q (neg_ℤ (pos l))) z ∙ least_of_lem s n l k;
      same = ap (λ (q : ℤ). eq (over16 q) x) z ∙ is_true (eq (over16 (with_sign s n)) x) (back_same (over16 (with_sign s n)) s m e n w h);
    }

-- either x is not taken, or every test passes
complete : (x : Float) (l : ℤ) → T (is_limit l) → (is_taken (nat_abs l) x ≡ false) ⊎ Passes x l
unfolding is_taken
complete x (negsuc l) t = absurd t
complete nan (pos l) t = inl refl
complete (inf s) (pos l) t = inl refl
complete (fin s m e) (pos l) t = go (test (m * up e) (down e) l) refl
  where
    go : (b : Bool) → test (m * up e) (down e) l ≡ b → (test (m * up e) (down e) l ≡ false) ⊎ Passes (fin s m e) (pos l)
    go false q = inl q
    go true q =
        let g : T (test (m * up e) (down e) l) = subst T (sym q) tt in
        inr (passes_fin s m e (m * up e * 16 / down e) l (test_exact (m * up e) (down e) l g) (test_le (m * up e) (down e) l g) (leb→le l 65536 t))

-- a test that came out otherwise than for what is taken
pub refused : (x : Float) (l : ℤ) (b : Bool) → T (is_limit l) → b ≡ false → (Passes x l → b ≡ true) → None ≡ scaled_of x l
refused x l b t f p = elim (complete x l t) [ inl e ↦ not_taken_is x l e | inr w ↦ absurd (true≢false (sym (p w) ∙ f)) ]

pub refused' : (x : Float) (l : ℤ) (b : Bool) → T (is_limit l) → b ≡ true → (Passes x l → b ≡ false) → None ≡ scaled_of x l
refused' x l b t f p = elim (complete x l t) [ inl e ↦ not_taken_is x l e | inr w ↦ absurd (true≢false (sym f ∙ p w)) ]
