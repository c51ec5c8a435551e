-- Which numbers are taken and which proxies are refused, said of the floats' values: 16·value of a number that is taken is the whole number
-- `sixteenths`, so the order of two such values is that of those whole numbers.
use Rattle.std.proofs.Common.{cond, Some, None, IsSome, ◌≡◌, ℕ, ◌*◌, ◌/◌, Bool, true, false, ◌&&◌, T, ◌↔◌, ℤ, pos, ◌*ℤ◌, nat_abs, ◌≤ℤ◌, sym, refl, ap, ◌∙◌, subst, true≢false, arith, lit<}
use mathlib.Core.Logic.Iff
use lib.Signed.{le_z}
use lib.Ieee.{Float, nan, inf, fin, up, down}
use lib.Ieee.Fits.{down_pos}
use Rattle.lemmas.proofs.Whole.{ν, ◌⊗◌ as ◌*ᴱ◌, ⊝, eq_by, le_z_true, le_le_z}
use Rattle.lemmas.proofs.Machine.{size_mul}
use Rattle.universe.specs.Refusals.{unless, bad_proxy}
use Rattle.standin.specs.declared.Triple.{Triple}
use Rattle.standin.specs.declared.Corners.{Corners}
use Rattle.standin.specs.declared.Plane.{Plane}
use Rattle.standin.specs.declared.Numbers.{Numbers}
use Rattle.standin.specs.Sixteenths.{with_sign, sixteenths, is_taken, corner_limit, normal_limit}
use Rattle.standin.specs.Rows.{numbers_of, scaled_triple, corner_sixteenths, takes_triple, in_order, takes_box, takes_cut}
use Rattle.standin.specs.Points.{value, values_of, is_finite, ◌≼◌, Multiple, Multiples, InOrder, GoodBox, GoodCut}
use Rattle.standin.proofs.Sixteenths.{test_exact, test_of, size_with_sign}
use Rattle.standin.proofs.Parts.{both, parts, box_parts, cut_parts}
use Rattle.standin.proofs.Held.{taken_small}
use Rattle.standin.proofs.Points.{Worth, Worths, worth_le}

exact_with_sign : (s : Bool) (a n d : ℕ) → a * 16 ≡ n * d → with_sign s a *ℤ pos 16 ≡ with_sign s n *ℤ pos d
exact_with_sign false a n d h = eq_by (ν a *ᴱ ν 16) (ν n *ᴱ ν d) (omega arith)
exact_with_sign true a n d h = eq_by (⊝ (ν a) *ᴱ ν 16) (⊝ (ν n) *ᴱ ν d) (omega arith)

-- 16·value of a number that is taken is `sixteenths`
pub taken_worth : (limit : ℕ) (x : Float) → is_taken limit x ≡ true → Worth (value x) 16 (sixteenths x)
unfolding is_taken sixteenths
taken_worth limit nan t = record { is = refl }
taken_worth limit (inf s) t = record { is = refl }
taken_worth limit (fin s m e) t =
    record { is = exact_with_sign s (m * up e) (m * up e * 16 / down e) (down e) (test_exact (m * up e) (down e) limit (subst T (sym t) tt)) }

taken_finite : (limit : ℕ) (x : Float) → is_taken limit x ≡ true → is_finite x ≡ true
unfolding is_taken
taken_finite limit nan t = t
taken_finite limit (inf s) t = t
taken_finite limit (fin s m e) t = refl

multiple_taken : (limit : ℕ) (x : Float) → Multiple limit x → is_taken limit x ≡ true
unfolding is_taken
multiple_taken limit nan h = h.finite
multiple_taken limit (inf s) h = h.finite
multiple_taken limit (fin s m e) h =
    let n = nat_abs h.count in
    let size : m * up e * 16 ≡ n * down e =
    ap (λ (a : ℕ). a * 16) (sym (size_with_sign s (m * up e)))
    ∙ sym (size_mul (with_sign s (m * up e)) (pos 16))
    ∙ ap nat_abs h.exact
    ∙ size_mul h.count (pos (down e)) in
    test_of (m * up e) (down e) n limit (down_pos e) size h.limited

-- a number is taken exactly if it is a finite multiple of 1/16 within its limit
pub number_taken : (limit : ℕ) (x : Float) → (is_taken limit x ≡ true) ↔ Multiple limit x
number_taken limit x = (
  λ t. record { finite = taken_finite limit x t; count = sixteenths x; exact = (taken_worth limit x t).is; limited = taken_small limit x t },
  multiple_taken limit x,
)

-- the three numbers of a triple
pub triple_worth : (limit : ℕ) (p : Triple) → takes_triple limit p ≡ true → Worths (values_of p) (numbers_of p)
triple_worth limit p t =
    let a = parts limit p t in
    record { x = taken_worth limit p.x a.x; y = taken_worth limit p.y a.y; z = taken_worth limit p.z a.z }

triple_taken : (limit : ℕ) (p : Triple) → (takes_triple limit p ≡ true) ↔ Multiples limit p
unfolding takes_triple
triple_taken limit p = (
  λ t. let a = parts limit p t in
      record { x = (number_taken limit p.x).0 a.x; y = (number_taken limit p.y).0 a.y; z = (number_taken limit p.z).0 a.z },
  λ m. rw ((number_taken limit p.x).1 m.x, (number_taken limit p.y).1 m.y, (number_taken limit p.z).1 m.z),
)

-- a corner in sixteenths
pub corner_good : (p : Triple) → IsSome (corner_sixteenths p) ↔ Multiples corner_limit p
unfolding scaled_triple
corner_good p = Iff.trans (taken_some (takes_triple corner_limit p)) (triple_taken corner_limit p)
  where
    taken_some : (b : Bool) → IsSome (cond b (Some (numbers_of p)) None) ↔ (b ≡ true)
    taken_some true = (λ e. refl, λ e. refl)
    taken_some false = (λ e. e, λ e. e)

pub corner_worth : (p : Triple) (n : Numbers) → corner_sixteenths p ≡ Some n → Worths (values_of p) n
unfolding scaled_triple
corner_worth p n e = go (takes_triple corner_limit p) refl e
  where
    go : (b : Bool) → takes_triple corner_limit p ≡ b → cond b (Some (numbers_of p)) None ≡ Some n → Worths (values_of p) n
    go true t e = let same : numbers_of p ≡ n = cc in rw same at (triple_worth corner_limit p t)
    go false t e = absurd (cc)

-- order
test_order : (a b : ℤ) → (le_z a b ≡ true) ↔ (a ≤ℤ b)
test_order a b = (le_z_true a b, le_le_z)

order_of : (x y : Float) → Worth (value x) 16 (sixteenths x) → Worth (value y) 16 (sixteenths y)
    → (le_z (sixteenths x) (sixteenths y) ≡ true) ↔ (value x ≼ value y)
order_of x y h k = Iff.trans (test_order (sixteenths x) (sixteenths y)) (Iff.symm (worth_le (lit< tt) h k))

corners_order : (c : Corners) → Worths (values_of c.near) (numbers_of c.near) → Worths (values_of c.far) (numbers_of c.far)
    → (in_order c ≡ true) ↔ InOrder c
unfolding in_order
corners_order c n f =
    let x = order_of c.near.x c.far.x n.x f.x in
    let y = order_of c.near.y c.far.y n.y f.y in
    let z = order_of c.near.z c.far.z n.z f.z in
    let X = le_z (sixteenths c.near.x) (sixteenths c.far.x) in
    let Y = le_z (sixteenths c.near.y) (sixteenths c.far.y) in
    let Z = le_z (sixteenths c.near.z) (sixteenths c.far.z) in (
      λ t. let a = both (X && Y) Z t in let b = both X Y a.0 in record { x = x.0 b.0; y = y.0 b.1; z = z.0 a.1 },
      λ o. rw (x.1 o.x, y.1 o.y, z.1 o.z),
    )

pub box_good : (c : Corners) (v : Triple) → (takes_box c v ≡ true) ↔ GoodBox c v
unfolding takes_box
box_good c v = (
  λ t. let b = box_parts c v t in
      record {
        near = (triple_taken corner_limit c.near).0 b.near;
        far = (triple_taken corner_limit c.far).0 b.far;
        displacement = (triple_taken normal_limit v).0 b.displacement;
        order = (corners_order c (triple_worth corner_limit c.near b.near) (triple_worth corner_limit c.far b.far)).0 b.order;
      },
  λ g.
      let n = (triple_taken corner_limit c.near).1 g.near in
      let f = (triple_taken corner_limit c.far).1 g.far in
      let o = (corners_order c (triple_worth corner_limit c.near n) (triple_worth corner_limit c.far f)).1 g.order in
      rw (n, f, (triple_taken normal_limit v).1 g.displacement, o),
)

pub cut_good : (a : Plane) (v : Triple) → (takes_cut a v ≡ true) ↔ GoodCut a v
unfolding takes_cut
cut_good a v = (
  λ t. let b = cut_parts a v t in
      record {
        normal = (triple_taken normal_limit a.normal).0 b.normal;
        offset = (number_taken corner_limit a.offset).0 b.offset;
        displacement = (triple_taken normal_limit v).0 b.displacement;
      },
  λ g.
      let n = (triple_taken normal_limit a.normal).1 g.normal in
      rw (n, (number_taken corner_limit a.offset).1 g.offset, (triple_taken normal_limit v).1 g.displacement),
)

-- 0 exactly if the test passes, the number exactly if not
pub accepts : (b : Bool) → (unless b bad_proxy ≡ 0) ↔ (b ≡ true)
accepts true = (λ e. refl, λ e. refl)
accepts false = (λ e. absurd (omega arith), λ e. absurd (true≢false (sym e)))

pub refuses : (b : Bool) (G : Type 0) → (b ≡ true) ↔ G → (unless b bad_proxy ≡ bad_proxy) ↔ (G → ⊥)
refuses true G h = (λ e. absurd (omega arith), λ f. absurd (f (h.0 refl)))
refuses false G h = (λ e g. true≢false (sym (h.1 g)), λ f. refl)
