-- The merged text is what rule 4.13 says: replacing one `(BB` or `(WW` after the other leads to it, none is left there, and every way of replacing until
-- none is left ends there.
use mathlib.Core.Path.{◌≡◌, refl, sym, ap, ◌∙◌}
use mathlib.Core.Bool.{Bool, true, false, ◌&&◌, ◌||◌}
use mathlib.Core.List.{List, [], ◌∷◌, ◌++◌}
use Prim.Native.Nat.{ℕ, ◌+◌, ◌≤◌}
use native.Mathlib.Decide.{ℕ_discrete}
use native.Mathlib.Omega.{arith}
use borrow.Author.Tests.{ne_eqb}
use lib.Dec.{eqb}
use lib.ListN.{length, length-append}
use Rattle.bintree.specs.declared.Colour.{Colour}
use Rattle.bintree.specs.declared.Colour.TheVariants.{White, Black}
use Rattle.bintree.specs.Shape.{open_symbol, symbol_of}
use Rattle.bintree.proofs.Merging.{Replaced}
use Rattle.held.specs.Held.{is_triple, in_front, merged_text}
use Rattle.held.proofs.Texts.{front_leaf, front_pair}

-- replacements one after the other
pub data Rewrites : List ℕ → List ℕ → Type 0 where
  none : (s : List ℕ) → Rewrites s s
  next : {s t v : List ℕ} → Replaced s t → Rewrites t v → Rewrites s v

-- ---- a replacement does not change the merged text

same_after : (l x y : List ℕ) → merged_text x ≡ merged_text y → merged_text (l ++ x) ≡ merged_text (l ++ y)
unfolding merged_text
same_after [] x y e = e
same_after (z ∷ l) x y e = ap (in_front z) (same_after l x y e)

triple : (c : Colour) (r : List ℕ) → merged_text (open_symbol ∷ symbol_of c ∷ symbol_of c ∷ r) ≡ merged_text (symbol_of c ∷ r)
unfolding merged_text
triple c r =
    let m = merged_text r in
    ap (λ z. in_front open_symbol (in_front (symbol_of c) z)) (front_leaf c m)
    ∙ ap (in_front open_symbol) (front_leaf c (symbol_of c ∷ m))
    ∙ front_pair c m
    ∙ sym (front_leaf c m)

pub replaced_same : {s t : List ℕ} → Replaced s t → merged_text s ≡ merged_text t
replaced_same r =
    let c = symbol_of r.colour in
    ap merged_text r.was
    ∙ same_after r.left (open_symbol ∷ c ∷ c ∷ r.right) (c ∷ r.right) (triple r.colour r.right)
    ∙ ap merged_text (sym r.is)

pub rewrites_same : {s t : List ℕ} → Rewrites s t → merged_text s ≡ merged_text t
rewrites_same (none s) = refl
rewrites_same (next r b) = replaced_same r ∙ rewrites_same b

-- ---- THEOREM: replacements lead to the merged text

rewrites_then : {s t v : List ℕ} → Rewrites s t → Rewrites t v → Rewrites s v
rewrites_then (none s) w = w
rewrites_then (next r b) w = next r (rewrites_then b w)

behind : (x : ℕ) {s t : List ℕ} → Replaced s t → Replaced (x ∷ s) (x ∷ t)
behind x r = record { colour = r.colour; left = x ∷ r.left; right = r.right; was = ap (λ z. x ∷ z) r.was; is = ap (λ z. x ∷ z) r.is }

rewrites_behind : (x : ℕ) {s t : List ℕ} → Rewrites s t → Rewrites (x ∷ s) (x ∷ t)
rewrites_behind x (none s) = none (x ∷ s)
rewrites_behind x (next r b) = next (behind x r) (rewrites_behind x b)

data Triple : ℕ → ℕ → ℕ → Type 0 where
  is_triple_lem : (c : Colour) → is_triple open_symbol (symbol_of c) (symbol_of c) ≡ true → Triple open_symbol (symbol_of c) (symbol_of c)
  no_triple : {x y z : ℕ} → is_triple x y z ≡ false → Triple x y z

and_false : (t : Bool) → (t && false) ≡ false
and_false true = refl
and_false false = refl

triple_of_lem : (x y z : ℕ) → Triple x y z
triple_of_lem x y z = go (ℕ_discrete x open_symbol) (ℕ_discrete y z) (ℕ_discrete y (symbol_of Black)) (ℕ_discrete y (symbol_of White))
  where
    go : Dec (x ≡ open_symbol) → Dec (y ≡ z) → Dec (y ≡ symbol_of Black) → Dec (y ≡ symbol_of White) → Triple x y z
    go (no a) d b c = no_triple {x = x} {y = y} {z = z} (rw (ne_eqb x open_symbol a))
    go (yes a) (no d) b c = no_triple {x = x} {y = y} {z = z} (rw (a, ne_eqb y z d) (and_false (eqb y (symbol_of Black) || eqb y (symbol_of White))))
    go (yes a) (yes d) (yes b) c = rw (a, ← d, b) (is_triple_lem Black refl)
    go (yes a) (yes d) (no b) (yes c) = rw (a, ← d, c) (is_triple_lem White refl)
    go (yes a) (yes d) (no b) (no c) = no_triple {x = x} {y = y} {z = z} (rw (a, ne_eqb y (symbol_of Black) b, ne_eqb y (symbol_of White) c))

front_triple : {x y z : ℕ} (m : List ℕ) → Triple x y z → Rewrites (x ∷ y ∷ z ∷ m) (in_front x (y ∷ z ∷ m))
unfolding in_front
front_triple m (is_triple_lem c e) = rw e (next (record { colour = c; left = []; right = m; was = refl; is = refl }) (none (symbol_of c ∷ m)))
front_triple {x} {y} {z} m (no_triple e) = rw e (none (x ∷ y ∷ z ∷ m))

front_rewrites : (x : ℕ) (m : List ℕ) → Rewrites (x ∷ m) (in_front x m)
unfolding in_front
front_rewrites x [] = none (x ∷ [])
front_rewrites x (y ∷ []) = none (x ∷ y ∷ [])
front_rewrites x (y ∷ z ∷ m) = front_triple m (triple_of_lem x y z)

pub merged_reached : (t : List ℕ) → Rewrites t (merged_text t)
unfolding merged_text
merged_reached [] = none []
merged_reached (x ∷ t) = rewrites_then (rewrites_behind x (merged_reached t)) (front_rewrites x (merged_text t))

-- ---- THEOREM: none is left there

replaced_shorter : {s t : List ℕ} → Replaced s t → length t + 2 ≡ length s
replaced_shorter {s} {t} r =
    let c = symbol_of r.colour in
    omega (arith, ap length r.was, ap length r.is, length-append r.left (open_symbol ∷ c ∷ c ∷ r.right), length-append r.left (c ∷ r.right))

rewrites_shorter : {s t : List ℕ} → Rewrites s t → length t ≤ length s
rewrites_shorter (none s) = omega arith
rewrites_shorter (next r b) = omega (arith, replaced_shorter r, rewrites_shorter b)

pub merged_last : (t v : List ℕ) → Replaced (merged_text t) v → ⊥
merged_last t v r =
    let m = merged_text t in
    let e : m ≡ merged_text v = rewrites_same (merged_reached t) ∙ replaced_same r in
    omega (arith, ap length e, rewrites_shorter (merged_reached v), replaced_shorter r)

-- ---- THEOREM: any way of replacing that goes on until none is left ends at the merged text

stops : {m v : List ℕ} → Rewrites m v → ((u : List ℕ) → Replaced m u → ⊥) → m ≡ v
stops (none s) h = refl
stops (next {t = t} r b) h = absurd (h t r)

pub last_merged : {t m : List ℕ} → Rewrites t m → ((u : List ℕ) → Replaced m u → ⊥) → m ≡ merged_text t
last_merged {t} {m} b h = stops (merged_reached m) h ∙ sym (rewrites_same b)
