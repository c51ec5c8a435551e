-- Fractions against whole numbers: `Worth f k n` says that f is n / k. Sums and products of such are such again, and order at one k is that of the
-- whole numbers, so a fact of fractions becomes one of whole numbers, which `omega` shows.
use Rattle.std.proofs.Common.{◌≡◌, ℕ, ◌+◌, ◌*◌, ◌<◌, ◌↔◌, ℤ, pos, ◌+ℤ◌, ◌*ℤ◌, ◌≤ℤ◌, refl, ap, ◌∙◌, ap₂, mul-le-mul_right, mul-pos, le_of_mul-le-mul_right, arith}
use Rattle.lemmas.proofs.Whole.{E, ι, ν, ◌⊕◌ as ◌+ᴱ◌, ◌⊗◌ as ◌*ᴱ◌, val, p⁺, p⁻, eq_by, eq_of, le_by, le_of, up, dn}
use Rattle.csg.specs.Halfspace.{Halfspace}
use Rattle.standin.specs.declared.Numbers.{Numbers}
use Rattle.standin.specs.Points.{Fraction, Fractions, over16, whole, ◌⊕◌, ◌⊗◌, ◌≼◌, Point, HoldsAt}

-- f · k = n
pub record Worth (f : Fraction) (k : ℕ) (n : ℤ) : Type 0 where
  pub is : f.numerator *ℤ pos k ≡ n *ℤ pos f.denominator

pub worth_whole : (a : ℤ) (k : ℕ) → Worth (whole a) k (a *ℤ pos k)
worth_whole a k = record { is = eq_by (ι a *ᴱ ν k) (ι a *ᴱ ν k *ᴱ ν 1) (omega arith) }

pub worth_add : {f g : Fraction} {k : ℕ} {m n : ℤ} → Worth f k m → Worth g k n → Worth (f ⊕ g) k (m +ℤ n)
worth_add {f} {g} {k} {m} {n} h i =
    let F = f.numerator in let G = g.numerator in let a = f.denominator in let b = g.denominator in
    record {
      is = eq_by ((ι F *ᴱ ν b +ᴱ ι G *ᴱ ν a) *ᴱ ν k) ((ι m +ᴱ ι n) *ᴱ ν (a * b))
          (omega (arith, ap (λ (t : ℕ). t * b) (eq_of (ι F *ᴱ ν k) (ι m *ᴱ ν a) h.is), ap (λ (t : ℕ). t * a) (eq_of (ι G *ᴱ ν k) (ι n *ᴱ ν b) i.is)));
    }

pub worth_mul : {f g : Fraction} {k l : ℕ} {m n : ℤ} → Worth f k m → Worth g l n → Worth (f ⊗ g) (k * l) (m *ℤ n)
worth_mul {f} {g} {k} {l} {m} {n} h i =
    let F = f.numerator in let G = g.numerator in let a = f.denominator in let b = g.denominator in
    record {
      is = eq_by (ι F *ᴱ ι G *ᴱ ν (k * l)) (ι F *ᴱ ν k *ᴱ (ι G *ᴱ ν l)) (omega arith)
          ∙ ap₂ ◌*ℤ◌ h.is i.is
          ∙ eq_by (ι m *ᴱ ν a *ᴱ (ι n *ᴱ ν b)) (ι m *ᴱ ι n *ᴱ ν (a * b)) (omega arith);
    }

-- a whole number times a fraction, and a fraction at a multiple of k
pub worth_times : (a : ℤ) {f : Fraction} {k : ℕ} {n : ℤ} → Worth f k n → Worth (whole a ⊗ f) k (a *ℤ n)
worth_times a {f} {k} {n} h =
    let F = f.numerator in let d = f.denominator in
    record {
      is = eq_by (ι a *ᴱ ι F *ᴱ ν k) (ι a *ᴱ (ι F *ᴱ ν k)) (omega arith)
          ∙ ap (λ (t : ℤ). a *ℤ t) h.is
          ∙ eq_by (ι a *ᴱ (ι n *ᴱ ν d)) (ι a *ᴱ ι n *ᴱ ν (1 * d)) (omega arith);
    }

pub worth_scale : (j : ℕ) {f : Fraction} {k : ℕ} {n : ℤ} → Worth f k n → Worth f (j * k) (pos j *ℤ n)
worth_scale j {f} {k} {n} h =
    let F = f.numerator in let d = f.denominator in
    record {
      is = eq_by (ι F *ᴱ ν (j * k)) (ν j *ᴱ (ι F *ᴱ ν k)) (omega arith)
          ∙ ap (λ (t : ℤ). pos j *ℤ t) h.is
          ∙ eq_by (ν j *ᴱ (ι n *ᴱ ν d)) (ν j *ᴱ ι n *ᴱ ν d) (omega arith);
    }

pub worth_grow : (j : ℕ) {f : Fraction} {k : ℕ} {n : ℤ} → Worth f k n → Worth f (k * j) (n *ℤ pos j)
worth_grow j {f} {k} {n} h =
    let F = f.numerator in let d = f.denominator in
    record {
      is = eq_by (ι F *ᴱ ν (k * j)) (ι F *ᴱ ν k *ᴱ ν j) (omega arith)
          ∙ ap (λ (t : ℤ). t *ℤ pos j) h.is
          ∙ eq_by (ι n *ᴱ ν d *ᴱ ν j) (ι n *ᴱ ν j *ᴱ ν d) (omega arith);
    }

-- three fractions at 16
pub record Worths (f : Fractions) (n : Numbers) : Type 0 where
  pub x : Worth f.x 16 n.x
  pub y : Worth f.y 16 n.y
  pub z : Worth f.z 16 n.z

pub over16_worth : (n : Numbers) → Worths (over16 n) n
over16_worth n = record { x = record { is = refl }; y = record { is = refl }; z = record { is = refl } }

-- order: a positive factor may be put in or left out
factor : (c : ℕ) → 0 < c → (a b : ℤ) → (a ≤ℤ b) ↔ ((a *ℤ pos c) ≤ℤ (b *ℤ pos c))
factor c h a b = (
  λ i. le_by (ι a *ᴱ ν c) (ι b *ᴱ ν c) (omega (arith, mul-le-mul_right c (le_of (ι a) (ι b) i))),
  λ i. le_by (ι a) (ι b) (le_of_mul-le-mul_right {m = up a + dn b} {n = up b + dn a} {k = c} (omega (arith, le_of (ι a *ᴱ ν c) (ι b *ᴱ ν c) i)) h),
)

pub same_order : {a b c d : ℤ} → a ≡ c → b ≡ d → (a ≤ℤ b) ↔ (c ≤ℤ d)
same_order {a} {b} {c} {d} e f = (λ h. rw (← e, ← f) h, λ h. rw (e, f) h)

pub worth_le : {f g : Fraction} {k : ℕ} {m n : ℤ} → 0 < k → Worth f k m → Worth g k n → (f ≼ g) ↔ (m ≤ℤ n)
worth_le {f} {g} {k} {m} {n} p h i =
    let F = f.numerator in let G = g.numerator in let a = f.denominator in let b = g.denominator in
    let l : (F *ℤ pos b) *ℤ pos k ≡ m *ℤ pos (a * b) =
    eq_by (ι F *ᴱ ν b *ᴱ ν k) (ι F *ᴱ ν k *ᴱ ν b) (omega arith)
    ∙ ap (λ (t : ℤ). t *ℤ pos b) h.is
    ∙ eq_by (ι m *ᴱ ν a *ᴱ ν b) (ι m *ᴱ ν (a * b)) (omega arith) in
    let r : (G *ℤ pos a) *ℤ pos k ≡ n *ℤ pos (a * b) =
    eq_by (ι G *ᴱ ν a *ᴱ ν k) (ι G *ᴱ ν k *ᴱ ν a) (omega arith)
    ∙ ap (λ (t : ℤ). t *ℤ pos a) i.is
    ∙ eq_by (ι n *ᴱ ν b *ᴱ ν a) (ι n *ᴱ ν (a * b)) (omega arith) in
    let one = factor k p (F *ℤ pos b) (G *ℤ pos a) in
    let two = same_order l r in
    let three = factor (a * b) (mul-pos f.proper g.proper) m n in
    (λ s. three.1 (two.0 (one.0 s.crosswise)), λ s. record { crosswise = one.1 (two.1 (three.0 s)) })

-- the four numbers of a point over one denominator
pub record Common (q : Point) : Type 0 where
  pub k : ℕ
  pub proper : 0 < k
  pub x : ℤ
  pub y : ℤ
  pub z : ℤ
  pub t : ℤ
  pub x_is : Worth q.x k x
  pub y_is : Worth q.y k y
  pub z_is : Worth q.z k z
  pub t_is : Worth q.t k t

worth_self : (f : Fraction) (r k : ℕ) → k ≡ r * f.denominator → Worth f k (pos r *ℤ f.numerator)
worth_self f r k e =
    let F = f.numerator in let d = f.denominator in
    record { is = ap (λ (j : ℕ). F *ℤ pos j) e ∙ eq_by (ι F *ᴱ ν (r * d)) (ν r *ᴱ ι F *ᴱ ν d) (omega arith) }

pub common : (q : Point) → Common q
common q =
    let a = q.x.denominator in let b = q.y.denominator in let c = q.z.denominator in let d = q.t.denominator in
    let k = a * b * (c * d) in
    record {
      k = k;
      proper = mul-pos (mul-pos q.x.proper q.y.proper) (mul-pos q.z.proper q.t.proper);
      x = pos (b * (c * d)) *ℤ q.x.numerator;
      y = pos (a * (c * d)) *ℤ q.y.numerator;
      z = pos (a * b * d) *ℤ q.z.numerator;
      t = pos (a * b * c) *ℤ q.t.numerator;
      x_is = worth_self q.x (b * (c * d)) k (omega arith);
      y_is = worth_self q.y (a * (c * d)) k (omega arith);
      z_is = worth_self q.z (a * b * d) k (omega arith);
      t_is = worth_self q.t (a * b * c) k (omega arith);
    }

-- two comparisons with the same gap
pub same_gap : (a b c d : E) → (p⁺ b + p⁻ a) + (p⁺ c + p⁻ d) ≡ (p⁺ a + p⁻ b) + (p⁺ d + p⁻ c) → (val a ≤ℤ val b) ↔ (val c ≤ℤ val d)
same_gap a b c d e = (λ h. le_by c d (omega (arith, le_of a b h)), λ h. le_by a b (omega (arith, le_of c d h)))

-- a halfspace at a point, by whole numbers
pub halfspace_at : (h : Halfspace) (q : Point) (o : Common q)
    → HoldsAt h q
    ↔ ((pos 0 *ℤ pos o.k)
    ≤ℤ (h.offset *ℤ pos o.k +ℤ h.coefficient 0 *ℤ o.x +ℤ h.coefficient 1 *ℤ o.y +ℤ h.coefficient 2 *ℤ o.z +ℤ h.coefficient 3 *ℤ o.t))
halfspace_at h q o =
    worth_le o.proper (worth_whole (pos 0) o.k)
    (worth_add
    (worth_add
    (worth_add (worth_add (worth_whole h.offset o.k) (worth_times (h.coefficient 0) o.x_is)) (worth_times (h.coefficient 1) o.y_is))
    (worth_times (h.coefficient 2) o.z_is))
    (worth_times (h.coefficient 3) o.t_is))
