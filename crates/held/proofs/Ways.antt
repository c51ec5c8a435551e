-- A text that is read in part is a way: the open nodes, each in its low part, or in its high part with the low part's shape. Every expression that
-- goes on from it fills the way with one shape, and further high parts outside.
use mathlib.Core.Path.{◌≡◌, refl, sym, ap, subst, ◌∙◌}
use mathlib.Core.List.{List, [], ◌∷◌, ◌++◌, append_assoc, append-nil}
use Prim.Native.Nat.{ℕ, ◌≤◌, max, suc-le-suc}
use native.Mathlib.Nat.{max-le, le-max_left, le-max_right}
use native.Mathlib.Omega.{arith}
use Rattle.bintree.specs.declared.Colour.{Colour}
use Rattle.bintree.specs.Shape.{Shape, leaf, halved, open_symbol, symbol_of, symbols, depth}
use Rattle.bintree.specs.Merging.{merged}
use Rattle.bintree.proofs.Shape.{symbol_not_open}
use Rattle.held.specs.Held.{in_front, merged_text, Begins}
use Rattle.held.proofs.Texts.{front_open, front_leaf_open, merged_before, read_once, begins_append}

pub data Way : Type 0 where
  top : Way
  low : Way → Way
  high : Way → Shape → Way

-- what was read, and what it merged to
unfoldable pub text_of : Way → List ℕ
text_of top = []
text_of (low w) = text_of w ++ (open_symbol ∷ [])
text_of (high w a) = text_of w ++ (open_symbol ∷ symbols a)

unfoldable pub merged_of : Way → List ℕ
merged_of top = []
merged_of (low w) = merged_of w ++ (open_symbol ∷ [])
merged_of (high w a) = merged_of w ++ (open_symbol ∷ symbols (merged a))

-- the shape s goes on from the way by x
pub data Fills : Way → Shape → Shape → Type 0 where
  at_top : (x : Shape) → Fills top x x
  in_low_lem : {w : Way} {x s : Shape} (b : Shape) → Fills w (halved x b) s → Fills (low w) x s
  in_high_lem : {w : Way} {a x s : Shape} → Fills w (halved a x) s → Fills (high w a) x s

-- ---- the merged text of a way. A text that does not begin with a leaf's symbol changes nothing before it

pub data Calm : List ℕ → Type 0 where
  empty : Calm []
  opens : (m : List ℕ) → Calm (open_symbol ∷ m)

pub front_calm : {m : List ℕ} → Calm m → in_front open_symbol m ≡ open_symbol ∷ m
unfolding in_front
front_calm empty = refl
front_calm (opens m) = front_open m

front_shape : (a : Shape) {m : List ℕ} → Calm m → in_front open_symbol (symbols a ++ m) ≡ open_symbol ∷ (symbols a ++ m)
unfolding in_front symbols
front_shape (leaf c) empty = refl
front_shape (leaf c) (opens m) = front_leaf_open c m
front_shape (halved u v) {m} k = front_open ((symbols u ++ symbols v) ++ m)

pub way_merged : (w : Way) (t : List ℕ) → Calm (merged_text t) → merged_text (text_of w ++ t) ≡ merged_of w ++ merged_text t
unfolding text_of merged_of merged_text
way_merged top t k = refl
way_merged (low w) t k =
    let e = front_calm k in
    ap merged_text (append_assoc (text_of w) (open_symbol ∷ []) t)
    ∙ way_merged w (open_symbol ∷ t) (subst Calm (sym e) (opens (merged_text t)))
    ∙ ap (λ z. merged_of w ++ z) e
    ∙ sym (append_assoc (merged_of w) (open_symbol ∷ []) (merged_text t))
way_merged (high w a) t k =
    let e : merged_text (open_symbol ∷ (symbols a ++ t)) ≡ open_symbol ∷ (symbols (merged a) ++ merged_text t) =
    ap (in_front open_symbol) (merged_before a t) ∙ front_shape (merged a) k in
    ap merged_text (append_assoc (text_of w) (open_symbol ∷ symbols a) t)
    ∙ way_merged w (open_symbol ∷ (symbols a ++ t)) (subst Calm (sym e) (opens (symbols (merged a) ++ merged_text t)))
    ∙ ap (λ z. merged_of w ++ z) e
    ∙ sym (append_assoc (merged_of w) (open_symbol ∷ symbols (merged a)) (merged_text t))

pub merged_way : (w : Way) → merged_text (text_of w) ≡ merged_of w
unfolding merged_text
merged_way w = ap merged_text (sym (append-nil (text_of w))) ∙ way_merged w [] empty ∙ append-nil (merged_of w)

-- ---- every expression that goes on from a way's text fills it, and the other way round

pub record Filled (w : Way) (t : List ℕ) (s : Shape) : Type 0 where
  pub by : Shape
  pub rest : List ℕ
  pub is : t ≡ symbols by ++ rest
  pub fills : Fills w by s

record Opened (x : Shape) (t rest : List ℕ) : Type 0 where
  lower : Shape
  higher : Shape
  shape : x ≡ halved lower higher
  text : t ≡ symbols lower ++ (symbols higher ++ rest)

opened : (x : Shape) (t rest : List ℕ) → open_symbol ∷ t ≡ symbols x ++ rest → Opened x t rest
unfolding symbols
opened (leaf c) t rest e = let f : symbol_of c ≡ open_symbol = cc in absurd (symbol_not_open c f)
opened (halved a b) t rest e =
    let f : t ≡ (symbols a ++ symbols b) ++ rest = cc in
    record { lower = a; higher = b; shape = refl; text = f ∙ append_assoc (symbols a) (symbols b) rest }

pub filled : (w : Way) (t : List ℕ) (s : Shape) → text_of w ++ t ≡ symbols s → Filled w t s
unfolding text_of
filled top t s e = record { by = s; rest = []; is = e ∙ sym (append-nil (symbols s)); fills = at_top s }
filled (low w) t s e =
    let f = filled w (open_symbol ∷ t) s (sym (append_assoc (text_of w) (open_symbol ∷ []) t) ∙ e) in
    let o = opened f.by t f.rest f.is in
    record { by = o.lower; rest = symbols o.higher ++ f.rest; is = o.text; fills = in_low_lem o.higher (subst (λ z. Fills w z s) o.shape f.fills) }
filled (high w a) t s e =
    let f = filled w (open_symbol ∷ (symbols a ++ t)) s (sym (append_assoc (text_of w) (open_symbol ∷ symbols a) t) ∙ e) in
    let o = opened f.by (symbols a ++ t) f.rest f.is in
    let r = read_once a o.lower t (symbols o.higher ++ f.rest) o.text in
    let k = o.shape ∙ ap (λ z. halved z o.higher) (sym r.shape) in
    record { by = o.higher; rest = f.rest; is = r.rest; fills = in_high_lem (subst (λ z. Fills w z s) k f.fills) }

-- the text of a shape that fills a way goes on from the way's
pub low_text : (m a b : List ℕ) → m ++ (open_symbol ∷ (a ++ b)) ≡ ((m ++ (open_symbol ∷ [])) ++ a) ++ b
low_text m a b = simp append_assoc

pub high_text : (m a b : List ℕ) → m ++ (open_symbol ∷ (a ++ b)) ≡ (m ++ (open_symbol ∷ a)) ++ b
high_text m a b = simp append_assoc

pub fills_text : {w : Way} {x s : Shape} → Fills w x s → Begins (text_of w ++ symbols x) (symbols s)
unfolding text_of symbols
fills_text (at_top x) = record { rest = []; is = sym (append-nil (symbols x)) }
fills_text {x = x} {s = s} (in_low_lem {w = w} b f) =
    begins_append (((text_of w) ++ (open_symbol ∷ [])) ++ symbols x) (symbols b)
    (subst (λ z. Begins z (symbols s)) (low_text (text_of w) (symbols x) (symbols b)) (fills_text f))
fills_text {x = x} {s = s} (in_high_lem {w = w} {a = a} f) = subst (λ z. Begins z (symbols s)) (high_text (text_of w) (symbols a) (symbols x)) (fills_text f)

-- ---- a way filled with x, and with leaves of one colour for every further part

unfoldable pub fill : Way → Colour → Shape → Shape
fill top c x = x
fill (low w) c x = fill w c (halved x (leaf c))
fill (high w a) c x = fill w c (halved a x)

pub fill_fills : (w : Way) (c : Colour) (x : Shape) → Fills w x (fill w c x)
unfolding fill
fill_fills top c x = at_top x
fill_fills (low w) c x = in_low_lem (leaf c) (fill_fills w c (halved x (leaf c)))
fill_fills (high w a) c x = in_high_lem (fill_fills w c (halved a x))

-- it is no deeper than any other that is filled with a shape as deep
deep_low : (x y b : Shape) (c : Colour) → depth y ≤ depth x → depth (halved y (leaf c)) ≤ depth (halved x b)
unfolding depth
deep_low x y b c h =
    let k : max (depth y) 0 ≤ max (depth x) (depth b) = max-le (omega (arith, le-max_left (depth x) (depth b))) (omega arith) in
    suc-le-suc k

deep_high : (x y a : Shape) → depth y ≤ depth x → depth (halved a y) ≤ depth (halved a x)
unfolding depth
deep_high x y a h =
    let k : max (depth a) (depth y) ≤ max (depth a) (depth x) = max-le (le-max_left (depth a) (depth x)) (omega (arith, le-max_right (depth a) (depth x))) in
    suc-le-suc k

pub fill_depth : {w : Way} {x s : Shape} (c : Colour) (y : Shape) → Fills w x s → depth y ≤ depth x → depth (fill w c y) ≤ depth s
unfolding fill
fill_depth c y (at_top x) h = h
fill_depth {x = x} c y (in_low_lem b f) h = fill_depth c (halved y (leaf c)) f (deep_low x y b c h)
fill_depth {x = x} c y (in_high_lem {a = a} f) h = fill_depth c (halved a y) f (deep_high x y a h)
