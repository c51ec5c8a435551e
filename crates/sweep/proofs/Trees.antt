-- Lists of trees by their places. A list is black, white, or its low halves beside its high halves, laid over each other; past the low halves stand the high
-- ones, and past those the trees end. What is swept of a list goes level by level: at a level of axis j both halves come into one list.
use mathlib.Core.Path.{◌≡◌, refl, sym, ap, ap₂, ◌∙◌}
use mathlib.Core.Bool.{Bool, true, false, cond}
use Rattle.std.specs.Prelude.{Option, Some, is_some}
use mathlib.Core.List.{List, [], ◌∷◌, ◌++◌, append_assoc}
use Prim.Native.Nat.{ℕ, zero, suc, ◌+◌, ◌*◌, ◌≤◌, ◌<◌}
use native.Mathlib.Omega.{arith}
use lib.Dec.{eqb}
use lib.ListN.{length, get_or, drop, take-append-drop}
use borrow.Author.Tests.{eq-eqb, ne_eqb}
use Rattle.bintree.specs.declared.Colour.{Colour}
use Rattle.bintree.specs.declared.Colour.TheVariants.{White, Black}
use Rattle.bintree.specs.Shape.{Shape, leaf, halved, open_symbol, symbol_of, symbols, size}
use Rattle.bintree.specs.Merging.{merged}
use Rattle.bintree.proofs.Shape.{symbol_not_open, symbol_not_zero}
use Rattle.bintree.proofs.Reading.{Stands, leaf_stands, open_stands, stands, stood, spells, within}
use Rattle.bintree.proofs.Merging.{merged_size}
use Rattle.sweep.specs.Sweeping.{over, swept}
use Rattle.sweep.specs.Places.{unions, lows, highs, total, swept_trees, trees_at, Begins, Stand, none, more}
use Rattle.sweep.specs.Places.{is_symbol, any_symbol, settled, passed, past_at, past_all, low_places, pulled, slots_for}
use Rattle.sweep.proofs.Over.{over_white, over_size, over_group}
use Rattle.sweep.proofs.Sweeping.{swept_leaf, swept_size, swept_over}
use Rattle.sweep.proofs.Slots.{passed_none}

-- ---- one tree

leaf_first : {s : List ℕ} {n p : ℕ} {c : Colour} → Stands s n p (leaf c) → get_or s p 0 ≡ symbol_of c
leaf_first (leaf_stands e) = e

open_first : {s : List ℕ} {n p : ℕ} {a b : Shape} → Stands s n p (halved a b) → get_or s p 0 ≡ open_symbol
open_first (open_stands e l h) = e

module _ {s : List ℕ} {n p : ℕ} where
  leaf_there : {c : Colour} → Begins s n p (leaf c) → get_or s p 0 ≡ symbol_of c
  leaf_there e = leaf_first (stands s n p _ e.is)

  open_there : {a b : Shape} → Begins s n p (halved a b) → get_or s p 0 ≡ open_symbol
  open_there e = open_first (stands s n p _ e.is)

  leaf_closed : {c : Colour} → Begins s n p (leaf c) → is_symbol s open_symbol p ≡ false
  leaf_closed {c} e = ne_eqb (get_or s p 0) open_symbol (λ f. symbol_not_open c (sym (leaf_there e) ∙ f))

  halved_open : {a b : Shape} → Begins s n p (halved a b) → is_symbol s open_symbol p ≡ true
  halved_open e = eq-eqb (get_or s p 0) open_symbol (open_there e)

  halved_black : {a b : Shape} → Begins s n p (halved a b) → is_symbol s (symbol_of Black) p ≡ false
  halved_black e = ne_eqb (get_or s p 0) (symbol_of Black) (λ f. symbol_not_open Black (sym f ∙ open_there e))

  black_black : Begins s n p (leaf Black) → is_symbol s (symbol_of Black) p ≡ true
  black_black e = eq-eqb (get_or s p 0) (symbol_of Black) (leaf_there e)

  white_black : Begins s n p (leaf White) → is_symbol s (symbol_of Black) p ≡ false
  white_black e = ne_eqb (get_or s p 0) (symbol_of Black) (λ f. let z : symbol_of White ≡ symbol_of Black = sym (leaf_there e) ∙ f in omega arith)

  some_there : (t : Shape) → Begins s n p t → p < length s
  some_there (leaf c) e = within s p (λ z. symbol_not_zero c (sym (leaf_there e) ∙ z))
  some_there (halved a b) e = within s p (λ z. let y : open_symbol ≡ 0 = sym (open_there e) ∙ z in omega arith)

-- the halves of a halved one
low_there : {s : List ℕ} {n p : ℕ} {a b : Shape} → Begins s (suc n) p (halved a b) → Begins s n (suc p) a
low_there {s} {n} {p} e = go (stands s (suc n) p _ e.is)
  where
    go : {a b : Shape} → Stands s (suc n) p (halved a b) → Begins s n (suc p) a
    go (open_stands f l h) = record { is = stood l }

high_there : {s : List ℕ} {n p : ℕ} {a b : Shape} → Begins s (suc n) p (halved a b) → Begins s n (suc p + size a) b
high_there {s} {n} {p} e = go (stands s (suc n) p _ e.is)
  where
    go : {a b : Shape} → Stands s (suc n) p (halved a b) → Begins s n (suc p + size a) b
    go (open_stands f l h) = record { is = stood h }

never_halved : {s : List ℕ} {p : ℕ} {a b : Shape} → Begins s 0 p (halved a b) → ⊥
never_halved {s} {p} e = go 0 refl (stands s 0 p _ e.is)
  where
    go : {a b : Shape} (n : ℕ) → n ≡ 0 → Stands s n p (halved a b) → ⊥
    go zero z x = elim x [ ]
    go (suc n) z (open_stands f l h) = omega arith

-- the place past it, found by counting the trees still to come
passed_tree : (t : Shape) (rest : List ℕ) (n : ℕ) → passed (symbols t ++ rest) (suc n) ≡ size t + passed rest n
unfolding passed symbols size
passed_tree (leaf Black) rest n = omega arith
passed_tree (leaf White) rest n = omega arith
passed_tree (halved a b) rest n =
    let e = ap (λ l. passed l (suc (suc n))) (append_assoc (symbols a) (symbols b) rest) ∙ passed_tree a (symbols b ++ rest) (suc n) in
    omega (arith, e, passed_tree b rest n)

pub past_tree : {s : List ℕ} {n p : ℕ} {t : Shape} → Begins s n p t → past_at s p ≡ p + size t
unfolding past_at
past_tree {s} {n} {p} {t} e =
    let rest = drop (size t) (drop p s) in
    let parts : drop p s ≡ symbols t ++ rest = sym (take-append-drop (size t) (drop p s)) ∙ ap (λ l. l ++ rest) (spells (stands s n p t e.is)) in
    omega (arith, ap (λ l. passed l 1) parts ∙ passed_tree t rest 0, passed_none rest)

-- ---- what a list of trees comes to

pub stand_trees : {s : List ℕ} {n : ℕ} {ps : List ℕ} {ts : List Shape} → Stand s n ps ts → trees_at s n ps ≡ ts
unfolding trees_at
stand_trees none = refl
stand_trees (more e w) = rw (e.is, stand_trees w)

pub stand_length : {s : List ℕ} {n : ℕ} {ps : List ℕ} {ts : List Shape} → Stand s n ps ts → length ps ≡ length ts
stand_length none = refl
stand_length (more e w) = ap suc (stand_length w)

pub stand_inside : {s : List ℕ} {n : ℕ} {ps : List ℕ} {ts : List Shape} → Stand s n ps ts → (i : ℕ) → i < length ps → get_or ps i 0 < length s
stand_inside none i h = absurd (omega arith)
stand_inside (more {t = t} e w) zero h = some_there t e
stand_inside (more e w) (suc i) h = stand_inside w i (omega arith)

pub stand_append : {s : List ℕ} {n : ℕ} {ps qs : List ℕ} {ts us : List Shape} → Stand s n ps ts → Stand s n qs us → Stand s n (ps ++ qs) (ts ++ us)
stand_append none v = v
stand_append (more e w) v = more e (stand_append w v)

-- black as soon as one is
black_list : {s : List ℕ} {n : ℕ} {ps : List ℕ} {ts : List Shape} → Stand s n ps ts → any_symbol s (symbol_of Black) ps ≡ true → unions ts ≡ leaf Black
unfolding any_symbol unions over
black_list none e = let z : ◌≡◌ {A = ℕ} 0 1 = cc in absurd (omega arith)
black_list (more {t = leaf Black} r w) e = refl
black_list (more {t = leaf White} r w) e = black_list w (rw (white_black r) at e)
black_list (more {t = halved a b} r w) e = ap (over (halved a b)) (black_list w (rw (halved_black r) at e))

-- where none is halved there are no halves
record NoHalves (ts : List Shape) : Type 0 where
  no_lows : lows ts ≡ []
  no_highs : highs ts ≡ []

closed_list : {s : List ℕ} {n : ℕ} {ps : List ℕ} {ts : List Shape} → Stand s n ps ts → any_symbol s open_symbol ps ≡ false → NoHalves ts
unfolding any_symbol lows highs
closed_list none e = record { no_lows = refl; no_highs = refl }
closed_list (more {t = leaf c} r w) e = let y = closed_list w (rw (leaf_closed r) at e) in record { no_lows = y.no_lows; no_highs = y.no_highs }
closed_list (more {t = halved a b} r w) e =
    let f = rw (halved_open r) at e in
    let z : ◌≡◌ {A = ℕ} 0 1 = cc in absurd (omega arith)

-- else white, or the halves
open_list : {s : List ℕ} {n : ℕ} {ps : List ℕ} {ts : List Shape} → Stand s n ps ts → any_symbol s (symbol_of Black) ps ≡ false →
    unions ts ≡ cond (any_symbol s open_symbol ps) (halved (unions (lows ts)) (unions (highs ts))) (leaf White)
unfolding any_symbol unions over lows highs
open_list none e = refl
open_list {s} (more {t = leaf Black} r w) e =
    let f = rw (black_black r) at e in
    let z : ◌≡◌ {A = ℕ} 0 1 = cc in absurd (omega arith)
open_list (more {t = leaf White} r w) e = rw (leaf_closed r) (open_list w (rw (white_black r) at e))
open_list {s} (more {t = halved a b} {ps = ps} {ts = ts} r w) e =
    rw (halved_open r) (step (any_symbol s open_symbol ps) (closed_list w) (open_list w (rw (halved_black r) at e)))
  where
    step : (t : Bool) → (t ≡ false → NoHalves ts) → unions ts ≡ cond t (halved (unions (lows ts)) (unions (highs ts))) (leaf White) →
        over (halved a b) (unions ts) ≡ halved (over a (unions (lows ts))) (over b (unions (highs ts)))
    step true k f = ap (over (halved a b)) f
    step false k f =
        ap (over (halved a b)) f
        ∙ sym (ap₂ halved (ap (λ x. over a (unions x)) (k refl).no_lows ∙ over_white a) (ap (λ x. over b (unions x)) (k refl).no_highs ∙ over_white b))

-- where one is halved there is a low half
some_low : {s : List ℕ} {n : ℕ} {ps : List ℕ} {ts : List Shape} → Stand s n ps ts → any_symbol s open_symbol ps ≡ true → 0 < length (lows ts)
unfolding any_symbol lows
some_low none e = let z : ◌≡◌ {A = ℕ} 0 1 = cc in absurd (omega arith)
some_low (more {t = leaf c} r w) e = some_low w (rw (leaf_closed r) at e)
some_low (more {t = halved a b} r w) e = omega arith

-- by what is settled
pub record Closed (ts : List Shape) (held : Option ℕ) : Type 0 where
  pub colour : Colour
  pub symbol : held ≡ Some (symbol_of colour)
  pub is : unions ts ≡ leaf colour

pub record Open (ts : List Shape) : Type 0 where
  pub halves : unions ts ≡ halved (unions (lows ts)) (unions (highs ts))
  pub some : 0 < length (lows ts)

module _ {s : List ℕ} {n : ℕ} {ps : List ℕ} {ts : List Shape} (w : Stand s n ps ts) where
  abbrev held : Option ℕ
  held = settled s (Some (symbol_of White)) ps

  pub closed : is_some held ≡ true → Closed ts held
  unfolding settled
  closed k = go (any_symbol s (symbol_of Black) ps) (any_symbol s open_symbol ps) refl refl
    where
      go : (b o : Bool) → any_symbol s (symbol_of Black) ps ≡ b → any_symbol s open_symbol ps ≡ o → Closed ts held
      go true o e f = record { colour = Black; symbol = rw e; is = black_list w e }
      go false true e f = let z : false ≡ true = rw (e, f) at k in cc
      go false false e f = record { colour = White; symbol = rw (e, f); is = open_list w e ∙ rw f }

  pub opened : is_some held ≡ false → Open ts
  unfolding settled
  opened k = go (any_symbol s (symbol_of Black) ps) (any_symbol s open_symbol ps) refl refl
    where
      go : (b o : Bool) → any_symbol s (symbol_of Black) ps ≡ b → any_symbol s open_symbol ps ≡ o → Open ts
      go true o e f = let z : true ≡ false = rw e at k in cc
      go false true e f = record { halves = open_list w e ∙ rw f; some = some_low w f }
      go false false e f = let z : true ≡ false = rw (e, f) at k in cc

-- with no level left no tree is halved
flat_lows : {s ps : List ℕ} {ts : List Shape} → Stand s 0 ps ts → lows ts ≡ []
unfolding lows
flat_lows none = refl
flat_lows (more {t = leaf c} r w) = flat_lows w
flat_lows (more {t = halved a b} r w) = absurd (never_halved r)

pub never_open : {s : List ℕ} {n : ℕ} {ps : List ℕ} {ts : List Shape} → Stand s n ps ts → is_some (settled s (Some (symbol_of White)) ps) ≡ false → 1 ≤ n
never_open {n = zero} w e = absurd (omega (arith, (opened w e).some, ap length (flat_lows w)))
never_open {n = suc n} w e = omega arith

-- ---- the halves by their places

module _ {s : List ℕ} {n : ℕ} where
  pub low_stand : {ps : List ℕ} {ts : List Shape} → Stand s (suc n) ps ts → Stand s n (low_places s ps) (lows ts)
  unfolding low_places lows
  low_stand none = none
  low_stand (more {t = leaf c} r w) = rw (leaf_closed r) (low_stand w)
  low_stand (more {t = halved a b} r w) = rw (halved_open r) (more (low_there r) (low_stand w))

  pub high_stand : {ps : List ℕ} {ts : List Shape} → Stand s (suc n) ps ts → Stand s n (past_all s (low_places s ps)) (highs ts)
  unfolding low_places highs
  high_stand none = none
  high_stand (more {t = leaf c} r w) = rw (leaf_closed r) (high_stand w)
  high_stand (more {t = halved a b} r w) = rw (halved_open r, past_tree (low_there r)) (more (high_there r) (high_stand w))

  -- back from them: past the high halves the trees end
  pub pulled_ends : {ps : List ℕ} {ts : List Shape} → Stand s (suc n) ps ts → (rest : List ℕ) →
      pulled s ps (past_all s (past_all s (low_places s ps)) ++ rest) ≡ past_all s ps
  unfolding low_places pulled size
  pulled_ends none rest = refl
  pulled_ends (more {p = p} {t = leaf c} {ps = ps} r w) rest =
      rw (leaf_closed r)
      (skip (past_all s (past_all s (low_places s ps)) ++ rest)
      ∙ ap₂ ◌∷◌ (let e : suc p ≡ p + 1 = omega arith in e ∙ sym (past_tree r)) (pulled_ends w rest))
    where
      skip : (ends : List ℕ) → pulled s (p ∷ ps) ends ≡ suc p ∷ pulled s ps ends
      skip [] = refl
      skip (q ∷ ends) = rw (leaf_closed r)
  pulled_ends (more {p = p} {t = halved a b} {ps = ps} r w) rest =
      rw (halved_open r) (rw (halved_open r)
      (ap₂ ◌∷◌
      (ap (past_at s) (past_tree (low_there r)) ∙ past_tree (high_there r) ∙ (let e : suc p + size a + size b ≡ p + suc (size a + size b) =
      omega arith in e) ∙ sym (past_tree r))
      (pulled_ends w rest)))

-- there are no more of them
pub few_lows : (s : List ℕ) (ps : List ℕ) → length (low_places s ps) ≤ length ps
unfolding low_places
few_lows s [] = omega arith
few_lows s (p ∷ ps) = go (is_symbol s open_symbol p) (few_lows s ps)
  where
    go : (t : Bool) → length (low_places s ps) ≤ length ps → length (cond t (suc p ∷ low_places s ps) (low_places s ps)) ≤ suc (length ps)
    go true h = omega arith
    go false h = omega arith

pub past_length : (s : List ℕ) (ps : List ℕ) → length (past_all s ps) ≡ length ps
past_length s [] = refl
past_length s (p ∷ ps) = ap suc (past_length s ps)

pub past_append : (s : List ℕ) (ps qs : List ℕ) → past_all s (ps ++ qs) ≡ past_all s ps ++ past_all s qs
past_append s [] qs = refl
past_append s (p ∷ ps) qs = ap (λ l. past_at s p ∷ l) (past_append s ps qs)

-- ---- sizes

pub halves_total : (ts : List Shape) → length ts + (total (lows ts) + total (highs ts)) ≤ total ts
unfolding total lows highs size
halves_total [] = omega arith
halves_total (leaf c ∷ ts) = omega (arith, halves_total ts)
halves_total (halved a b ∷ ts) = omega (arith, halves_total ts)

pub total_append : (ts us : List Shape) → total (ts ++ us) ≡ total ts + total us
unfolding total
total_append [] us = omega arith
total_append (t ∷ ts) us = omega (arith, total_append ts us)

unions_size : (ts : List Shape) → 0 < length ts → size (unions ts) ≤ total ts
unfolding unions total
unions_size [] h = absurd (omega arith)
unions_size (t ∷ []) h = omega (arith, ap size (over_white t))
unions_size (t ∷ v ∷ ts) h = omega (arith, unions_size (v ∷ ts) (omega arith), over_size t (unions (v ∷ ts)))

-- what is written is no longer than the trees
pub swept_trees_size : (order : List ℕ) (j : ℕ) (ts : List Shape) → 0 < length ts → size (swept_trees order j ts) ≤ total ts
swept_trees_size order j ts h = omega (arith, merged_size (swept order j (unions ts)), swept_size order j (unions ts), unions_size ts h)

-- ---- level by level

pub unions_append : (ts us : List Shape) → unions (ts ++ us) ≡ over (unions ts) (unions us)
unfolding unions over
unions_append [] us = refl
unions_append (t ∷ ts) us = ap (over t) (unions_append ts us) ∙ sym (over_group t (unions ts) (unions us))

pub unions_one : (t : Shape) → unions (t ∷ []) ≡ t
unfolding unions
unions_one t = over_white t

pub swept_closed : (order : List ℕ) (j : ℕ) (ts : List Shape) (c : Colour) → unions ts ≡ leaf c → swept_trees order j ts ≡ leaf c
unfolding merged
swept_closed order j ts c e = ap (λ t. merged (swept order j t)) e ∙ ap merged (swept_leaf order j c)

module _ (x : ℕ) (order : List ℕ) (j : ℕ) (ts : List Shape) (w : Open ts) where
  pub swept_across_lem : x ≡ j → swept_trees (x ∷ order) j ts ≡ swept_trees order j (lows ts ++ highs ts)
  unfolding swept
  swept_across_lem e =
      ap (λ t. merged (swept (x ∷ order) j t)) w.halves
      ∙ ap (λ t. merged (cond t (over (swept order j (unions (lows ts))) (swept order j (unions (highs ts)))) (halved (swept order j (unions (lows ts)))
      (swept order j (unions (highs ts))))))
      (eq-eqb x j e)
      ∙ ap merged (sym (swept_over order j (unions (lows ts)) (unions (highs ts))) ∙ ap (swept order j) (sym (unions_append (lows ts) (highs ts))))

  pub swept_halves_lem : (x ≡ j → ⊥) → swept_trees (x ∷ order) j ts ≡ merged (halved (swept order j (unions (lows ts))) (swept order j (unions (highs ts))))
  unfolding swept
  swept_halves_lem n =
      ap (λ t. merged (swept (x ∷ order) j t)) w.halves
      ∙ ap (λ t. merged (cond t (over (swept order j (unions (lows ts))) (swept order j (unions (highs ts)))) (halved (swept order j (unions (lows ts)))
      (swept order j (unions (highs ts))))))
      (ne_eqb x j n)

-- ---- slots suffice

pub slots_least : (order : List ℕ) (j n : ℕ) → n ≤ slots_for order j n
unfolding slots_for
slots_least [] j n = omega arith
slots_least (x ∷ order) j n = omega arith

pub slots_mono : (order : List ℕ) (j m n : ℕ) → m ≤ n → slots_for order j m ≤ slots_for order j n
unfolding slots_for
slots_mono [] j m n h = h
slots_mono (x ∷ order) j m n h = go (eqb x j) (slots_mono order j (2 * m) (2 * n) (omega arith)) (slots_mono order j m n h)
  where
    go : (t : Bool) → slots_for order j (2 * m) ≤ slots_for order j (2 * n) → slots_for order j m ≤ slots_for order j n →
        m + slots_for order j (cond t (2 * m) m) ≤ n + slots_for order j (cond t (2 * n) n)
    go true p q = omega arith
    go false p q = omega arith

pub slots_across : (x : ℕ) (order : List ℕ) (j n : ℕ) → x ≡ j → slots_for (x ∷ order) j n ≡ n + slots_for order j (2 * n)
unfolding slots_for
slots_across x order j n e = rw (eq-eqb x j e)

pub slots_halves : (x : ℕ) (order : List ℕ) (j n : ℕ) → (x ≡ j → ⊥) → slots_for (x ∷ order) j n ≡ n + slots_for order j n
unfolding slots_for
slots_halves x order j n e = rw (ne_eqb x j e)
