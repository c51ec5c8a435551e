-- What the code holds between its two steps keeps the limits, so no sum or product of the second step overflows, and is the proxy's numbers in
-- sixteenths.
use Rattle.std.proofs.Common.{Option, Some, None, ◌≡◌, ℕ, ◌*◌, ◌^◌, ◌≤◌, Bool, true, false, cond, ◌&&◌, T, ltb, ℤ, pos, negsuc, ◌+ℤ◌, ◌-ℤ◌, ◌*ℤ◌, neg_ℤ, nat_abs, sym, refl, ap, ◌∙◌, subst, true≢false, zero-le, le_trans, le_refl, arith, lt→ltb, leb, leb→le, max, w64, SFits, to_z, of_z}
use Rattle.std.specs.Bool.{then_some}
use lib.IntN.{+ℤ_idl}
use lib.Signed.{le_z}
use lib.Ieee.{Float, nan, inf, fin, up, down}
use borrow.Author.Tests.{le-leb}
use mir.ValLaws.{to_z-of_z}
use Rattle.lemmas.proofs.Whole.{ι, ν, ⊝, le_by, le_le_z}
use Rattle.lemmas.proofs.Machine.{nat_abs_parts, Near, near, range, near_neg, near_nat, near_mul, near_add, near_fits, near_back, near_call}
use Rattle.standin.specs.declared.Triple.{Triple}
use Rattle.standin.specs.declared.Corners.{Corners}
use Rattle.standin.specs.declared.Plane.{Plane}
use Rattle.standin.specs.declared.Numbers.{Numbers}
use Rattle.standin.specs.declared.ScaledBox.{ScaledBox}
use Rattle.standin.specs.declared.ScaledCut.{ScaledCut}
use Rattle.standin.specs.Sixteenths.{sixteenths, is_taken, corner_limit, normal_limit}
use Rattle.standin.specs.Rows.{numbers_of, alike, scaled_triple, at_most, takes_triple, takes_box, takes_cut, in_order, is_limited, dot}
use Rattle.standin.specs.Held.{is_limit, held, scaled_of, scaled_box, scaled_cut, Limited}
use Rattle.standin.proofs.Sixteenths.{test_le, size_with_sign}
use Rattle.standin.proofs.Parts.{both, parts, order_parts, box_parts, cut_parts}

-- what is taken is within its limit, and so is what is held
pub taken_small : (limit : ℕ) (x : Float) → is_taken limit x ≡ true → nat_abs (sixteenths x) ≤ limit
unfolding is_taken sixteenths
taken_small limit nan t = absurd (true≢false (sym t))
taken_small limit (inf s) t = absurd (true≢false (sym t))
taken_small limit (fin s m e) t = rw size_with_sign (test_le (m * up e) (down e) limit (subst T (sym t) tt))

pub triple_small : (limit : ℕ) (p : Triple) → takes_triple limit p ≡ true → Limited limit (numbers_of p)
triple_small limit p t =
    let a = parts limit p t in
    record { x = taken_small limit p.x a.x; y = taken_small limit p.y a.y; z = taken_small limit p.z a.z }

pub zeros_limited : {limit : ℕ} → Limited limit (alike (pos 0))
zeros_limited = record { x = zero-le; y = zero-le; z = zero-le }

pub wider : {limit wide : ℕ} {a : Numbers} → limit ≤ wide → Limited limit a → Limited wide a
wider l w = record { x = le_trans w.x l; y = le_trans w.y l; z = le_trans w.z l }

-- from −limit to limit
pub limited_is : (limit : ℕ) (n : Numbers) → is_limited limit n ≡ true → Limited limit n
unfolding is_limited
limited_is limit n t =
    let least = alike (neg_ℤ (pos limit)) in
    let most = alike (pos limit) in
    let a = both (at_most least n) (at_most n most) t in
    let l = order_parts least n a.0 in
    let m = order_parts n most a.1 in
    record { x = (range n.x limit m.x l.x).most; y = (range n.y limit m.y l.y).most; z = (range n.z limit m.z l.z).most }

pub is_limited_lem : (limit : ℕ) (n : Numbers) → Limited limit n → is_limited limit n ≡ true
unfolding is_limited
is_limited_lem limit n h = rw (low n.x h.x, low n.y h.y, low n.z h.z, high n.x h.x, high n.y h.y, high n.z h.z)
  where
    low : (z : ℤ) → nat_abs z ≤ limit → le_z (neg_ℤ (pos limit)) z ≡ true
    low z k = le_le_z (le_by (⊝ (ν limit)) (ι z) (omega (arith, nat_abs_parts z)))

    high : (z : ℤ) → nat_abs z ≤ limit → le_z z (pos limit) ≡ true
    high z k = le_le_z (le_by (ι z) (ν limit) (omega (arith, nat_abs_parts z)))

-- so the largest of them decides
pub largest_decides : (limit : ℕ) (n : Numbers) → leb (max (max (nat_abs n.x) (nat_abs n.y)) (nat_abs n.z)) limit ≡ is_limited limit n
largest_decides limit n = go (leb largest limit) refl (is_limited limit n) refl
  where
    largest : ℕ
    largest = max (max (nat_abs n.x) (nat_abs n.y)) (nat_abs n.z)

    go : (b : Bool) → leb largest limit ≡ b → (c : Bool) → is_limited limit n ≡ c → leb largest limit ≡ is_limited limit n
    go true e true f = e ∙ sym f
    go false e false f = e ∙ sym f
    go true e false f =
        let h : largest ≤ limit = leb→le largest limit (subst T (sym e) tt) in
        absurd (true≢false (sym (is_limited_lem limit n (record { x = omega arith; y = omega arith; z = omega arith })) ∙ f))
    go false e true f =
        let l = limited_is limit n f in
        absurd (true≢false (sym (le-leb largest limit (omega (arith, l.x, l.y, l.z))) ∙ e))

-- numbers within a limit, as the machine reads them, and what it makes of them
abbrev pub back : ℤ → ℤ
back z = to_z w64 (of_z w64 z)

abbrev Held : ℤ → ℕ → Type 0
Held n limit = Near (back n) n limit

pub record Reads (limit : ℕ) (a : Numbers) : Type 0 where
  pub x : Held a.x limit
  pub y : Held a.y limit
  pub z : Held a.z limit

pub reads : {limit : ℕ} {a : Numbers} → Limited limit a → T (ltb limit (2 ^ 63)) → Reads limit a
reads w t =
    record { x = near (record { most = w.x }) t; y = near (record { most = w.y }) t; z = near (record { most = w.z }) t }

pub number : (n : ℤ) → nat_abs n ≤ corner_limit → Held n corner_limit
number n h = near (record { most = h }) tt

pub negated : {m n : ℤ} {b : ℕ} → Near m n b → Near (pos 0 -ℤ m) (neg_ℤ n) b
negated {m} {n} {b} h = record { same = +ℤ_idl (neg_ℤ m) ∙ ap neg_ℤ h.same; size = (near_neg h).size }

-- a·b, in the order of the code: an operation's result is read back from its bits before the next
module _ {a b : Numbers} (h : Reads normal_limit a) (k : Reads normal_limit b) where
  abbrev along_x : ℤ
  along_x = back (back a.x *ℤ back b.x)

  abbrev along_y : ℤ
  along_y = back (back a.y *ℤ back b.y)

  abbrev along_z : ℤ
  along_z = back (back a.z *ℤ back b.z)

  pub two : Near (along_x +ℤ along_y) (a.x *ℤ b.x +ℤ a.y *ℤ b.y) 2097152
  two = near_add (near_back (near_mul h.x k.x) tt) (near_back (near_mul h.y k.y) tt)

  pub three : Near (back (along_x +ℤ along_y) +ℤ along_z) (dot a b) 3145728
  unfolding dot
  three = near_add (near_back two tt) (near_back (near_mul h.z k.z) tt)

-- what a call of `dot` gave
pub dot_read : {a b : Numbers} {r : ℤ} → Limited normal_limit a → Limited normal_limit b → r ≡ dot a b → Near (back r) (dot a b) 3145728
dot_read h k e = near_call e (record { same = refl; size = (three (reads h tt) (reads k tt)).size }) tt

-- a limit negated, as the machine has it
pub lower_fits : (l : ℤ) → SFits w64 l → T (le_z (pos 0) l) → SFits w64 (pos 0 -ℤ l)
lower_fits (pos n) f t = near_fits (negated (near_nat n n (le_refl n))) (lt→ltb n (2 ^ 63) f.sfits)
lower_fits (negsuc n) f t = absurd t

pub lower_is : (l : ℤ) → SFits w64 l → T (le_z (pos 0) l) → back (pos 0 -ℤ back l) ≡ neg_ℤ l
lower_is l f t = ap (λ (z : ℤ). back (pos 0 -ℤ z)) (to_z-of_z w64 l f) ∙ to_z-of_z w64 (pos 0 -ℤ l) (lower_fits l f t) ∙ +ℤ_idl (neg_ℤ l)

-- a triple that is taken is held as its numbers
pub numbers_are : (limit : ℕ) (p : Triple) → takes_triple limit p ≡ true → scaled_triple limit p ≡ Some (numbers_of p)
unfolding scaled_triple
numbers_are limit p t = rw t

-- a number, and a triple, that is held is taken, and is its sixteenths
held_some : (limit : ℕ) (x : Float) (n : ℤ) → held limit x ≡ Some n → (is_taken limit x ≡ true) × (sixteenths x ≡ n)
unfolding held
held_some limit x n e = go (is_taken limit x) e
  where
    go : (t : Bool) → cond t (Some (sixteenths x)) None ≡ Some n → (t ≡ true) × (sixteenths x ≡ n)
    go true e = (refl, cc)
    go false e = absurd (cc)

held_none : (limit : ℕ) (x : Float) → held limit x ≡ None → is_taken limit x ≡ false
unfolding held
held_none limit x e = go (is_taken limit x) e
  where
    go : (t : Bool) → cond t (Some (sixteenths x)) None ≡ None → t ≡ false
    go true e = absurd (cc)
    go false e = refl

pub triple_some : (limit : ℕ) (p : Triple) (n : Numbers) → scaled_triple limit p ≡ Some n → (takes_triple limit p ≡ true) × (numbers_of p ≡ n)
unfolding scaled_triple
triple_some limit p n e = go (takes_triple limit p) e
  where
    go : (t : Bool) → cond t (Some (numbers_of p)) None ≡ Some n → (t ≡ true) × (numbers_of p ≡ n)
    go true e = (refl, cc)
    go false e = absurd (cc)

triple_none : (limit : ℕ) (p : Triple) → scaled_triple limit p ≡ None → takes_triple limit p ≡ false
unfolding scaled_triple
triple_none limit p e = go (takes_triple limit p) e
  where
    go : (t : Bool) → cond t (Some (numbers_of p)) None ≡ None → t ≡ false
    go true e = absurd (cc)
    go false e = refl

any_false : (a b : Bool) → b ≡ false → a && b ≡ false
any_false true b e = e
any_false false b e = refl

-- a limit is within what a machine number holds
limit_small : (l : ℤ) → T (is_limit l) → T (ltb (nat_abs l) (2 ^ 63))
limit_small (pos n) t = lt→ltb n (2 ^ 63) (omega (arith, leb→le n corner_limit t))
limit_small (negsuc n) t = absurd t

-- what the calls of `scale` gave: the limit was passed on by its bits
module _ (p : Triple) (l : ℤ) (f : SFits w64 l) where
  same_limit : back l ≡ l
  same_limit = to_z-of_z w64 l f

  scaled : (x : Float) → scaled_of x (back l) ≡ held (nat_abs l) x
  scaled x = ap (scaled_of x) same_limit

  module _ {r : Option ℤ} (i : r ≡ scaled_of p.x (back l)) where
    pub triple_x : r ≡ None → None ≡ scaled_triple (nat_abs l) p
    unfolding scaled_triple takes_triple
    triple_x e = rw (held_none (nat_abs l) p.x (sym (scaled p.x) ∙ sym i ∙ e))

  module _ {s : Option ℤ} (j : s ≡ scaled_of p.y (back l)) where
    pub triple_y : s ≡ None → None ≡ scaled_triple (nat_abs l) p
    unfolding scaled_triple takes_triple
    triple_y e = rw (held_none (nat_abs l) p.y (sym (scaled p.y) ∙ sym j ∙ e), any_false (is_taken (nat_abs l) p.x) false refl)

  module _ {t : Option ℤ} (k : t ≡ scaled_of p.z (back l)) where
    pub triple_z : t ≡ None → None ≡ scaled_triple (nat_abs l) p
    unfolding scaled_triple takes_triple
    triple_z e =
        rw
        (held_none (nat_abs l) p.z (sym (scaled p.z) ∙ sym k ∙ e), any_false (is_taken (nat_abs l) p.x && is_taken (nat_abs l) p.y) false refl)

  pub triple_all : T (is_limit l) → {r s t : Option ℤ} {m n o : ℤ}
      → r ≡ scaled_of p.x (back l) → r ≡ Some m
      → s ≡ scaled_of p.y (back l) → s ≡ Some n
      → t ≡ scaled_of p.z (back l) → t ≡ Some o
      → Some (record { x = back m; y = back n; z = back o }) ≡ scaled_triple (nat_abs l) p
  unfolding scaled_triple takes_triple
  triple_all b i e j g k h =
      let x = held_some (nat_abs l) p.x _ (sym (scaled p.x) ∙ sym i ∙ e) in
      let y = held_some (nat_abs l) p.y _ (sym (scaled p.y) ∙ sym j ∙ g) in
      let z = held_some (nat_abs l) p.z _ (sym (scaled p.z) ∙ sym k ∙ h) in
      let read : (x : Float) (n : ℤ) → (is_taken (nat_abs l) x ≡ true) × (sixteenths x ≡ n) → back n ≡ sixteenths x =
      λ x n a. (near (record { most = rw (← a.1) (taken_small (nat_abs l) x a.0) }) (limit_small l b)).same ∙ sym a.1 in
      rw (x.0, y.0, z.0, read p.x _ x, read p.y _ y, read p.z _ z)

by_test : {A : Type 0} (t : Bool) (x : A) → then_some t x ≡ cond t (Some x) None
by_test true x = refl
by_test false x = refl

-- what those of `scale_triple` gave of a Box
module _ (c : Corners) (v : Triple) where
  pub box_near : {near : Option Numbers} → near ≡ scaled_triple corner_limit c.near → near ≡ None → None ≡ scaled_box c v
  unfolding scaled_box takes_box
  box_near n e = rw (triple_none corner_limit c.near (sym n ∙ e))

  pub box_far : {far : Option Numbers} → far ≡ scaled_triple corner_limit c.far → far ≡ None → None ≡ scaled_box c v
  unfolding scaled_box takes_box
  box_far f e = rw (triple_none corner_limit c.far (sym f ∙ e), any_false (takes_triple corner_limit c.near) false refl)

  pub box_step : {step : Option Numbers} → step ≡ scaled_triple normal_limit v → step ≡ None → None ≡ scaled_box c v
  unfolding scaled_box takes_box
  box_step s e =
      rw
      (triple_none normal_limit v (sym s ∙ e), any_false (takes_triple corner_limit c.near && takes_triple corner_limit c.far) false refl)

  order_as : {a b : Numbers} → numbers_of c.near ≡ a → numbers_of c.far ≡ b → in_order c ≡ at_most a b
  unfolding in_order
  order_as x y = rw (← x, ← y)

  pub box_all : {near far step : Option Numbers} {a b d : Numbers}
      → near ≡ scaled_triple corner_limit c.near → near ≡ Some a
      → far ≡ scaled_triple corner_limit c.far → far ≡ Some b
      → step ≡ scaled_triple normal_limit v → step ≡ Some d
      → then_some (at_most a b) (record { near = a; far = b; displacement = d }) ≡ scaled_box c v
  unfolding scaled_box takes_box
  box_all {a = a} {b = b} {d = d} n e f g s h =
      let x = triple_some corner_limit c.near _ (sym n ∙ e) in
      let y = triple_some corner_limit c.far _ (sym f ∙ g) in
      let z = triple_some normal_limit v _ (sym s ∙ h) in
      rw (x.0, y.0, z.0, order_as x.1 y.1, x.1, y.1, z.1) (by_test (at_most a b) (record { near = a; far = b; displacement = d }))

-- and of a Cut
module _ (a : Plane) (v : Triple) where
  pub cut_normal : {normal : Option Numbers} → normal ≡ scaled_triple normal_limit a.normal → normal ≡ None → None ≡ scaled_cut a v
  unfolding scaled_cut takes_cut
  cut_normal n e = rw (triple_none normal_limit a.normal (sym n ∙ e))

  pub cut_offset : {offset : Option ℤ} → offset ≡ scaled_of a.offset (pos corner_limit) → offset ≡ None → None ≡ scaled_cut a v
  unfolding scaled_cut takes_cut
  cut_offset o e = rw (held_none corner_limit a.offset (sym o ∙ e), any_false (takes_triple normal_limit a.normal) false refl)

  pub cut_step : {step : Option Numbers} → step ≡ scaled_triple normal_limit v → step ≡ None → None ≡ scaled_cut a v
  unfolding scaled_cut takes_cut
  cut_step s e =
      rw
      (triple_none normal_limit v (sym s ∙ e), any_false (takes_triple normal_limit a.normal && is_taken corner_limit a.offset) false refl)

  pub cut_all : {normal step : Option Numbers} {offset : Option ℤ} {b d : Numbers} {m : ℤ}
      → normal ≡ scaled_triple normal_limit a.normal → normal ≡ Some b
      → offset ≡ scaled_of a.offset (pos corner_limit) → offset ≡ Some m
      → step ≡ scaled_triple normal_limit v → step ≡ Some d
      → Some (record { normal = b; offset = back m; displacement = d }) ≡ scaled_cut a v
  unfolding scaled_cut takes_cut
  cut_all n e o g s h =
      let x = triple_some normal_limit a.normal _ (sym n ∙ e) in
      let y = held_some corner_limit a.offset _ (sym o ∙ g) in
      let z = triple_some normal_limit v _ (sym s ∙ h) in
      let read = (number (sixteenths a.offset) (taken_small corner_limit a.offset y.0)).same in
      rw (x.0, y.0, z.0, ← x.1, ← y.1, ← z.1, read)

-- a Box and a Cut that are held keep the limits
pub box_limited : (c : Corners) (v : Triple) (b : ScaledBox) → scaled_box c v ≡ Some b
    → Limited corner_limit b.near × Limited corner_limit b.far × Limited normal_limit b.displacement
unfolding scaled_box
box_limited c v b e = go (takes_box c v) refl e
  where
    go : (t : Bool) → takes_box c v ≡ t
        → cond t (Some (record { near = numbers_of c.near; far = numbers_of c.far; displacement = numbers_of v })) None ≡ Some b
        → Limited corner_limit b.near × Limited corner_limit b.far × Limited normal_limit b.displacement
    go true t e =
        let p = box_parts c v t in
        let same : record { near = numbers_of c.near; far = numbers_of c.far; displacement = numbers_of v } ≡ b = cc in
        rw (← same) (triple_small corner_limit c.near p.near, triple_small corner_limit c.far p.far, triple_small normal_limit v p.displacement)
    go false t e = absurd (cc)

pub cut_limited : (a : Plane) (v : Triple) (b : ScaledCut) → scaled_cut a v ≡ Some b
    → Limited normal_limit b.normal × (nat_abs b.offset ≤ corner_limit) × Limited normal_limit b.displacement
unfolding scaled_cut
cut_limited a v b e = go (takes_cut a v) refl e
  where
    go : (t : Bool) → takes_cut a v ≡ t
        → cond t (Some (record { normal = numbers_of a.normal; offset = sixteenths a.offset; displacement = numbers_of v })) None ≡ Some b
        → Limited normal_limit b.normal × (nat_abs b.offset ≤ corner_limit) × Limited normal_limit b.displacement
    go true t e =
        let p = cut_parts a v t in
        let same : record { normal = numbers_of a.normal; offset = sixteenths a.offset; displacement = numbers_of v } ≡ b = cc in
        rw (← same) (triple_small normal_limit a.normal p.normal, taken_small corner_limit a.offset p.offset, triple_small normal_limit v p.displacement)
    go false t e = absurd (cc)

pub ruleset triple_laws = (triple_x, triple_y, triple_z)

pub ruleset box_laws = (box_near, box_far, box_step)

pub ruleset cut_laws = (cut_normal, cut_offset, cut_step, cut_all)
