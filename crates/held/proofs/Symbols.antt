-- After each symbol of an expression `held_after` says what is held: the text so far is a way's, and the numbers carried to it are the way's runs.
use mathlib.Core.Path.{◌≡◌, refl, sym, ap, ◌∙◌}
use mathlib.Core.List.{List, [], ◌∷◌, ◌++◌, append_assoc, append-nil}
use Prim.Native.Nat.{ℕ, zero, suc, ◌+◌, ◌-◌, ◌≤◌, ◌<◌, max}
use native.Mathlib.Decide.{dec_lt, ℕ_discrete}
use native.Mathlib.Omega.{arith}
use lib.ListN.{length, length-append, take, get_or, get_or-append}
use lib.Seq.{take-append-le, take-append-add, take-append_seam, take_all, get_or-append-add, get_or-append_seam}
use Rattle.universe.specs.declared.Universe.{Universe}
use Rattle.universe.specs.Universe.{levels}
use Rattle.bintree.specs.declared.Colour.TheVariants.{White, Black}
use Rattle.bintree.specs.Shape.{Shape, leaf, halved, open_symbol, symbols, size, depth}
use Rattle.bintree.specs.Merging.{merged, onward, held_in, held_after}
use Rattle.bintree.proofs.Shape.{length_symbols}
use Rattle.held.specs.Held.{merged_text, Begins, Held}
use Rattle.held.proofs.Texts.{spelt, read_once, merged_symbols_lem}
use Rattle.held.proofs.Ways.{Way, top, low, high, text_of, Fills, at_top, in_low_lem, in_high_lem}
use Rattle.held.proofs.Runs.{run, held_at, held_way}

pub length_held : (b w : ℕ) (s : Shape) → length (held_in b w s) + 1 ≡ size s
unfolding held_in size
length_held b w (leaf c) = refl
length_held b w (halved l h) =
    let b' = onward Black b l in
    let w' = onward White w l in
    let d = length-append (held_in (b + 1) (w + 1) l) (max b' w' ∷ held_in b' w' h) in
    omega (arith, length_held (b + 1) (w + 1) l, length_held b' w' h)

pub length_after : (s : Shape) → length (held_after s) ≡ size s
unfolding held_after
length_after s = omega (arith, length_held 0 0 s, length-append (held_in 0 0 s) (0 ∷ []))

-- ---- after a whole expression none is held

begins_self : (z : List ℕ) → Begins z z
begins_self z = record { rest = []; is = sym (append-nil z) }

pub held_whole : (u : Universe) (s : Shape) → Held u (symbols s) 0
held_whole u s =
    let m = merged_text (symbols s) in
    record {
      within = omega arith;
      fixed =
          record {
            within = omega arith;
            always = λ more ex.
                let x = spelt u (symbols s ++ more) ex in
                let r = read_once s x.shape more [] (x.is ∙ sym (append-nil (symbols x.shape))) in
                let e = x.merges ∙ ap (λ z. symbols (merged z)) (sym r.shape) ∙ sym (merged_symbols_lem s) in
                rw (e, take_all (length m - 0) m (omega arith)) (begins_self m);
          };
      longest = λ n fx. let h = fx.within in omega arith;
    }

-- ---- every other beginning is a way's text

pub record Found (w : Way) (x s : Shape) (i : ℕ) : Type 0 where
  pub way : Way
  pub by : Shape
  pub fills : Fills way by s
  pub text : text_of w ++ take (suc i) (symbols x) ≡ text_of way
  pub count : get_or (held_in (run Black w) (run White w) x) i 0 ≡ held_at way

module _ (w : Way) (a b s : Shape) (f : Fills w (halved a b) s) where
  abbrev lows : List ℕ
  lows = held_in (run Black w + 1) (run White w + 1) a

  abbrev highs : List ℕ
  highs = held_in (onward Black (run Black w) a) (onward White (run White w) a) b

  abbrev between : ℕ
  between = max (onward Black (run Black w) a) (onward White (run White w) a)

  found_open : Found w (halved a b) s 0
  unfolding symbols held_in held_at text_of run
  found_open = record { way = low w; by = a; fills = in_low_lem b f; text = refl; count = refl }

  found_low : (i : ℕ) → suc i < size a → Found (low w) a s i → Found w (halved a b) s (suc i)
  unfolding symbols held_in text_of run
  found_low i h k =
      record {
        way = k.way;
        by = k.by;
        fills = k.fills;
        text =
            ap (λ z. text_of w ++ (open_symbol ∷ z)) (take-append-le (suc i) (symbols a) (symbols b) (omega (arith, length_symbols a)))
            ∙ sym (append_assoc (text_of w) (open_symbol ∷ []) (take (suc i) (symbols a)))
            ∙ k.text;
        count = get_or-append lows (between ∷ highs) 0 i (omega (arith, length_held (run Black w + 1) (run White w + 1) a)) ∙ k.count;
      }

  found_between : (i : ℕ) → suc i ≡ size a → Found w (halved a b) s (suc i)
  unfolding symbols held_in text_of run held_at
  found_between i h =
      let d : i ≡ length lows = omega (arith, length_held (run Black w + 1) (run White w + 1) a) in
      let e : suc i ≡ length (symbols a) = omega (arith, length_symbols a) in
      record {
        way = high w a;
        by = b;
        fills = in_high_lem f;
        text =
            ap (λ n. text_of w ++ (open_symbol ∷ take n (symbols a ++ symbols b))) e
            ∙ ap (λ z. text_of w ++ (open_symbol ∷ z)) (take-append_seam (symbols a) (symbols b));
        count = ap (λ n. get_or (lows ++ (between ∷ highs)) n 0) d ∙ get_or-append_seam lows between highs 0;
      }

  found_high : (i k : ℕ) → i ≡ size a + k → Found (high w a) b s k → Found w (halved a b) s (suc i)
  unfolding symbols held_in text_of run
  found_high i k h g =
      let d : i ≡ length lows + suc k = omega (arith, length_held (run Black w + 1) (run White w + 1) a) in
      let e : suc i ≡ length (symbols a) + suc k = omega (arith, length_symbols a) in
      record {
        way = g.way;
        by = g.by;
        fills = g.fills;
        text =
            ap (λ n. text_of w ++ (open_symbol ∷ take n (symbols a ++ symbols b))) e
            ∙ ap (λ z. text_of w ++ (open_symbol ∷ z)) (take-append-add (symbols a) (symbols b) (suc k))
            ∙ sym (append_assoc (text_of w) (open_symbol ∷ symbols a) (take (suc k) (symbols b)))
            ∙ g.text;
        count = ap (λ n. get_or (lows ++ (between ∷ highs)) n 0) d ∙ get_or-append-add lows (between ∷ highs) (suc k) 0 ∙ g.count;
      }

  found_in :
      ((i : ℕ) → suc i < size a → Found (low w) a s i) → ((i : ℕ) → suc i < size b → Found (high w a) b s i) →
      (i : ℕ) → suc i < size a + size b → Dec (suc i < size a) → Dec (suc i ≡ size a) → Found w (halved a b) s (suc i)
  found_in l r i h (yes p) q = found_low i p (l i p)
  found_in l r i h (no p) (yes q) = found_between i q
  found_in l r i h (no p) (no q) =
      found_high i (i - size a) (omega arith) (r (i - size a) (omega arith))

pub found : (w : Way) (x s : Shape) → Fills w x s → (i : ℕ) → suc i < size x → Found w x s i
unfolding size
found w (leaf c) s f i h = absurd (omega arith)
found w (halved a b) s f zero h = found_open w a b s f
found w (halved a b) s f (suc i) h =
    found_in w a b s f (found (low w) a s (in_low_lem b f)) (found (high w a) b s (in_high_lem f)) i (omega arith)
    (dec_lt (suc i) (size a)) (ℕ_discrete (suc i) (size a))

-- THEOREM: after each symbol of an expression `held_after` says what is held
after_some : (u : Universe) (s : Shape) → depth s ≤ levels u → (i : ℕ) → suc i < size s → Held u (take (suc i) (symbols s)) (get_or (held_after s) i 0)
unfolding held_after text_of run
after_some u s deep i h =
    let k = found top s s (at_top s) i h in
    let e : get_or (held_in 0 0 s ++ (0 ∷ [])) i 0 ≡ held_at k.way =
    get_or-append (held_in 0 0 s) (0 ∷ []) 0 i (omega (arith, length_held 0 0 s)) ∙ k.count in
    rw (k.text, e) (held_way u k.fills deep)

after_all : (u : Universe) (s : Shape) (i : ℕ) → suc i ≡ size s → Held u (take (suc i) (symbols s)) (get_or (held_after s) i 0)
unfolding held_after
after_all u s i h =
    let d : i ≡ length (held_in 0 0 s) = omega (arith, length_held 0 0 s) in
    let e : get_or (held_in 0 0 s ++ (0 ∷ [])) i 0 ≡ 0 =
    ap (λ n. get_or (held_in 0 0 s ++ (0 ∷ [])) n 0) d ∙ get_or-append_seam (held_in 0 0 s) 0 [] 0 in
    rw (e, take_all (suc i) (symbols s) (omega (arith, length_symbols s))) (held_whole u s)

pub held_after_lem : (u : Universe) (s : Shape) → depth s ≤ levels u → (i : ℕ) → i < size s → Held u (take (suc i) (symbols s)) (get_or (held_after s) i 0)
held_after_lem u s deep i h = go (dec_lt (suc i) (size s))
  where
    go : Dec (suc i < size s) → Held u (take (suc i) (symbols s)) (get_or (held_after s) i 0)
    go (yes k) = after_some u s deep i k
    go (no k) = after_all u s i (omega arith)

-- what is held is one number
pub held_once : (u : Universe) (text : List ℕ) (g h : ℕ) → Held u text g → Held u text h → g ≡ h
held_once u text g h x y =
    omega (
      arith,
      x.within,
      y.within,
      x.longest (length (merged_text text) - h) y.fixed,
      y.longest (length (merged_text text) - g) x.fixed,
    )
