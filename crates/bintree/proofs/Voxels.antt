-- What the functions of src/voxel.rt answer: whether a voxel is inside, the path that leads to it, and the colour of the part at the path's end. Each law takes
-- its premises in the form that code leaves them.
use mathlib.Core.Path.{◌≡◌, refl, sym, ap, ◌∙◌}
use mathlib.Core.Bool.{Bool, true, false, cond}
use mathlib.Core.List.{List, [], ◌∷◌}
use Prim.Native.Nat.{ℕ, zero, suc, ◌+◌, ◌-◌, ◌*◌, ◌/◌, ◌%◌, ◌^◌, ◌≤◌, ◌<◌}
use native.Mathlib.Nat.{div-one, div-div-eq-div-mul, mul_comm}
use native.Mathlib.Decide.{ℕ_discrete}
use native.Mathlib.Omega.{arith}
use borrow.Author.Rules.{rules}
use lib.Dec.{eqb, ltb}
use lib.ListN.{length, get_or, set, take, drop, length-set}
use lib.Seq.{drop-cons, get_or-drop, get_or-set_same, get_or-set_other}
use Rattle.lemmas.proofs.Sums.{one_not_every, all_every}
use Rattle.std.specs.Prelude.{Option, Some, None}
use Rattle.universe.specs.declared.Universe.{Universe}
use Rattle.universe.specs.declared.accepted.Accepted.{Accepted}
use Rattle.universe.specs.Accepting.{accepted_answer}
use Rattle.universe.specs.Questions.{axes_left}
use Rattle.universe.specs.Refusals.{bad_expression, outside}
use Rattle.universe.specs.Universe.{universe_refusal, levels, most_axes, most_levels, axis_at, side_along, block_side}
use Rattle.universe.specs.Voxel.{voxel_refusal, place_along, half_at, path_from, path_to}
use Rattle.universe.proofs.Acceptance.{accepted_number, accepted_same}
use Rattle.universe.proofs.Questions.{axes_left_at, axes_left_below}
use Rattle.universe.proofs.Universes.{accepted, levels_few, some_axes, side_last, side_halved, side_kept}
use Rattle.bintree.specs.declared.Colour.{Colour}
use Rattle.bintree.specs.declared.Colour.TheVariants.{White, Black}
use Rattle.bintree.specs.Told.{ColouredAnswer}
use Rattle.bintree.specs.declared.place.Traced.{Traced}
use Rattle.bintree.specs.Shape.{Shape, leaf, symbol_of, symbols, size}
use Rattle.bintree.specs.Reading.{none, read, read_at, expression}
use Rattle.bintree.specs.Answers.{unless_refused}
use Rattle.bintree.specs.Parts.{part, part_start, colour_of, colour_at, refused_colour, done_colour, colour_answer}
use Rattle.bintree.specs.Walks.{symbol_colour, traced}
use Rattle.bintree.proofs.Answers.{is_refused, is_done, answer_universe, answer_none, answer_last}
use Rattle.bintree.proofs.Answers.{place_fits, place_room}
use Rattle.bintree.proofs.Parts.{part_within, part_symbols, voxel_leaf}
use Rattle.bintree.proofs.Places.{Followed, followed, lost_none}
use Rattle.bintree.proofs.Shape.{size_positive}
use Rattle.bintree.proofs.Reading.{expression_none, expression_rest, expression_read, read_is}

-- inside along one axis, and along all
abbrev pub inside_along : Universe → List ℕ → ℕ → Bool
inside_along u v i = cond (ltb i u.axes) (ltb (place_along v i) (side_along u i)) (eqb (place_along v i) 0)

module _ (x length : ℕ) where
  pub place_inside : {side : ℕ} (there : Bool) → Some side ≡ cond there (Some length) None → ltb x side ≡ cond there (ltb x length) (eqb x 0)
  place_inside {side} true e = let same : side ≡ length = cc in rw same
  place_inside false e = let z : ◌≡◌ {A = ℕ} 0 1 = cc in absurd (omega arith)

  pub place_above : (there : Bool) → None ≡ cond there (Some length) None → eqb x 0 ≡ cond there (ltb x length) (eqb x 0)
  place_above true e = let z : ◌≡◌ {A = ℕ} 0 1 = cc in absurd (omega arith)
  place_above false e = refl

pub ruleset inside_laws = (rules, place_inside, place_above)

-- the laws of `check_voxel`
module _ (u : Universe) (v : List ℕ) where
  pub outside_here : (i : ℕ) → i < most_axes → inside_along u v i ≡ false → outside ≡ voxel_refusal u v
  unfolding voxel_refusal
  outside_here i h e = rw (one_not_every most_axes (inside_along u v) i h e)

  pub inside_all : ((i : ℕ) → i < most_axes → inside_along u v i ≡ true) → 0 ≡ voxel_refusal u v
  unfolding voxel_refusal
  inside_all h = rw (all_every most_axes (inside_along u v) h)

-- ---- the path to a voxel, from the last level on: with n levels to go, `rest` has the voxel's place along each axis in blocks of that level
pub record Leading (u : Universe) (axes v path rest : List ℕ) (count n : ℕ) : Type 0 where
  pub taken : universe_refusal u ≡ 0
  pub order : axes ≡ axes_left u
  pub all : count ≡ levels u
  pub few : n ≤ levels u
  pub long : length path ≡ most_levels
  pub wide : length rest ≡ most_axes
  pub reached : (i : ℕ) → i < u.axes → get_or rest i 0 ≡ place_along v i / block_side u (levels u - n) i
  pub leads : (j : ℕ) → levels u - n ≤ j → j < levels u → get_or path j 0 ≡ half_at u j (place_along v (axis_at u j))

-- the halves from level l on
halves_are :
    (u : Universe) (v path : List ℕ) (n l : ℕ) → l + n ≤ length path →
    ((j : ℕ) → l ≤ j → j < l + n → get_or path j 0 ≡ half_at u j (place_along v (axis_at u j))) → take n (drop l path) ≡ path_from u v l n
unfolding path_from
halves_are u v path zero l h f = refl
halves_are u v path (suc n) l h f =
    rw (drop-cons path l 0 (omega arith), f l (omega arith) (omega arith))
    (ap (λ p. half_at u l (place_along v (axis_at u l)) ∷ p) (halves_are u v path n (suc l) (omega arith) (λ j i k. f j (omega arith) (omega arith))))

pub leading_first :
    (u : Universe) (axes v path : List ℕ) (count : ℕ) → universe_refusal u ≡ 0 → axes ≡ axes_left u → count ≡ levels u → length path ≡ most_levels →
    length v ≡ most_axes → Leading u axes v path v count 0
leading_first u axes v path count ok a c e f =
    record {
      taken = ok;
      order = a;
      all = c;
      few = omega arith;
      long = e;
      wide = f;
      reached = λ i h. let z : levels u - 0 ≡ levels u = omega arith in rw (z, side_last u i h) (sym (div-one (place_along v i)));
      leads = λ j h k. absurd (omega arith);
    }

module _ {u : Universe} {axes v path rest : List ℕ} {count n : ℕ} (w : Leading u axes v path rest count n) where
  module _ (h : n < count) where
    below : n < levels u
    below = omega (arith, w.all)

    level : ℕ
    level = levels u - suc n

    axis_is : get_or axes n 0 ≡ axis_at u level
    unfolding level
    axis_is = ap (λ l. get_or l n 0) w.order ∙ axes_left_at u w.taken n below

    its_axis : get_or axes n 0 < u.axes
    its_axis = rw w.order (axes_left_below u w.taken n below)

    pub axis_fits : get_or axes n 0 < most_axes
    axis_fits = omega (arith, its_axis, (accepted u w.taken).few_axes)

    pub axis_room : get_or axes n 0 * 8 < 2 ^ 64
    axis_room = omega (arith, axis_fits)

    pub level_fits : count - 1 - n < most_levels
    level_fits = omega (arith, w.all, levels_few u (accepted u w.taken))

    next : levels u - n ≡ suc level
    unfolding level
    next = omega (arith, below)

    half_is : get_or rest (get_or axes n 0) 0 % 2 ≡ half_at u level (place_along v (axis_at u level))
    half_is = rw (w.reached (get_or axes n 0) its_axis, axis_is, next)

    rest_next : (i : ℕ) → i < u.axes → get_or (set rest (get_or axes n 0) (get_or rest (get_or axes n 0) 0 / 2)) i 0 ≡ place_along v i / block_side u level i
    rest_next i k = go (ℕ_discrete (get_or axes n 0) i)
      where
        go : Dec (get_or axes n 0 ≡ i) → get_or (set rest (get_or axes n 0) (get_or rest (get_or axes n 0) 0 / 2)) i 0 ≡ place_along v i / block_side u level i
        go (yes e) =
            let wide : block_side u level i ≡ block_side u (suc level) i * 2 =
            rw (sym axis_is ∙ e) at (side_halved u (some_axes u n below) level (omega (arith, below, next)) ∙ mul_comm 2 _) in
            rw (e, get_or-set_same rest i (get_or rest i 0 / 2) 0 (omega (arith, w.wide, (accepted u w.taken).few_axes)), w.reached i k, next, wide)
            (div-div-eq-div-mul (place_along v i) (block_side u (suc level) i) 2)
        go (no e) =
            get_or-set_other rest (get_or axes n 0) i (get_or rest (get_or axes n 0) 0 / 2) 0 (λ f. e (sym f))
            ∙ w.reached i k
            ∙ rw (next, side_kept u level i (λ f. e (axis_is ∙ f)))

    pub leading_next :
        (half : ℕ) → half ≡ get_or rest (get_or axes n 0) 0 % 2 →
        Leading u axes v (set path (count - 1 - n) half) (set rest (get_or axes n 0) (get_or rest (get_or axes n 0) 0 / 2)) count (n + 1)
    unfolding level
    leading_next half f =
        record {
          taken = w.taken;
          order = w.order;
          all = w.all;
          few = omega (arith, below);
          long = length-set path (count - 1 - n) half ∙ w.long;
          wide = length-set rest (get_or axes n 0) _ ∙ w.wide;
          reached = λ i k. rw q (rest_next i k);
          leads = λ j i k. at j i k (ℕ_discrete j level);
        }
      where
        q : levels u - (n + 1) ≡ level
        q = omega arith

        place : count - 1 - n ≡ level
        place = omega (arith, w.all)

        at :
            (j : ℕ) → levels u - (n + 1) ≤ j → j < levels u → Dec (j ≡ level) →
            get_or (set path (count - 1 - n) half) j 0 ≡ half_at u j (place_along v (axis_at u j))
        at j i k (yes e) = rw (e, place) (get_or-set_same path level half 0 (omega (arith, level_fits, place, w.long)) ∙ f ∙ half_is)
        at j i k (no e) =
            get_or-set_other path (count - 1 - n) j half 0 (λ g. e (g ∙ place))
            ∙ w.leads j (omega (arith, next, q)) k

  pub path_whole : count ≤ n → take (levels u) path ≡ path_to u v
  path_whole h =
      halves_are u v path (levels u) 0 (omega (arith, w.long, levels_few u (accepted u w.taken)))
      (λ j i k. w.leads j (omega (arith, w.all)) (omega arith))

pub ruleset leading_laws = (rules, place_fits, place_room, leading_first, axis_fits, axis_room, level_fits, leading_next, path_whole)

-- ---- the symbol of a part that is a leaf, and its colour
first_of : (l : List ℕ) → get_or (take 1 l) 0 0 ≡ get_or l 0 0
first_of [] = refl
first_of (x ∷ l) = refl

leaf_symbol_lem : (a : Shape) (path : List ℕ) (c : Colour) → part a path ≡ leaf c → get_or (symbols a) (part_start a path) 0 ≡ symbol_of c
unfolding size symbols
leaf_symbol_lem a path c e =
    let z : part_start a path + 0 ≡ part_start a path = omega arith in
    let cut : take 1 (drop (part_start a path) (symbols a)) ≡ symbol_of c ∷ [] = rw e at (part_symbols a path) in
    ap (λ i. get_or (symbols a) i 0) (sym z)
    ∙ sym (get_or-drop (part_start a path) (symbols a) 0 0)
    ∙ sym (first_of (drop (part_start a path) (symbols a)))
    ∙ ap (λ l. get_or l 0 0) cut

colour_again : (c : Colour) → symbol_colour (symbol_of c) ≡ c
colour_again Black = refl
colour_again White = refl

-- ---- the laws of `colour_at`: a universe that is refused, and an accepted one, of which the voxel's path is followed from the first symbol on
pub colour_refused :
    (u : Universe) (s v : List ℕ) {n : ℕ} {w : Universe} → record { refusal = n; universe = w } ≡ accepted_answer u → (n ≡ 0 → ⊥) →
    refused_colour n ≡ colour_answer u s v
unfolding colour_answer
colour_refused u s v {n} told h = answer_universe u n (accepted_number u told) s (voxel_refusal u v ∷ []) refused_colour _ _ h refl

module _ (asked : Universe) (its : Accepted) (s v : List ℕ) (told : record { refusal = 0; universe = its.universe } ≡ accepted_answer asked) where
  abbrev u : Universe
  u = its.universe

  same_colour : colour_answer u s v ≡ colour_answer asked s v
  same_colour = ap (λ w. colour_answer w s v) (accepted_same asked told refl)

  seven : expression u s ≡ none → refused_colour bad_expression ≡ colour_answer asked s v
  unfolding colour_answer
  seven x = answer_none u 0 (sym its.not_refused) s (voxel_refusal u v ∷ []) refused_colour _ _ refl x refl ∙ same_colour

  module _ (count : ℕ) (c : count ≡ levels its.universe) (path : List ℕ) where
    all_traced : {r : Option Traced} → r ≡ traced 0 (read_at s count 0) path → r ≡ traced 0 (read_at s (levels u) 0) path
    all_traced f = f ∙ ap (λ n. traced 0 (read_at s n 0) path) c

    pub colour_lost : None ≡ traced 0 (read_at s count 0) path → refused_colour bad_expression ≡ colour_answer asked s v
    colour_lost f = seven (expression_none u s (lost_none 0 path (read_at s (levels u) 0) (all_traced f)))

    module _ (t : Traced) (f : Some t ≡ traced 0 (read_at s count 0) path) where
      found : Followed 0 t path (read_at s (levels u) 0)
      found = followed 0 t path (read_at s (levels u) 0) (all_traced f)

      pub colour_rest : (t.end ≡ length s → ⊥) → refused_colour bad_expression ≡ colour_answer asked s v
      colour_rest n = let w = found in seven (expression_rest u s w.shape w.is (λ k. n (omega (arith, w.after))))

      module _ (all : t.end ≡ length s) where
        a : Shape
        a = found.shape

        is_read : expression u s ≡ read a
        unfolding a
        is_read = let w = found in expression_read u s w.shape w.is (omega (arith, w.after))

        pub colour_place : t.start < length s
        unfolding a
        colour_place = let w = found in omega (arith, w.starts, w.after, part_within w.shape path, size_positive (part w.shape path))

        module _ (way : path ≡ path_to its.universe v) (nine : ℕ) (i : nine ≡ voxel_refusal its.universe v) where
          its_colour : symbol_colour (get_or s t.start 0) ≡ colour_at u a v
          unfolding colour_at a
          its_colour = go (voxel_leaf u a v (read_is u s a is_read).1)
            where
              go : (d : Colour) × (part a (path_to u v) ≡ leaf d) → symbol_colour (get_or s t.start 0) ≡ colour_of (part a (path_to u v))
              go (d, l) =
                  let starts : t.start ≡ part_start a path = omega (arith, found.starts) in
                  let there : get_or s t.start 0 ≡ symbol_of d =
                  ap (λ i. get_or s i 0) starts
                  ∙ ap (λ (t : List ℕ). get_or t (part_start a path) 0) (sym (read_is u s a is_read).0)
                  ∙ leaf_symbol_lem a path d (ap (part a) way ∙ l) in
                  rw (there, l) (colour_again d)

          by_voxel :
              (colour : Colour) {answer : ColouredAnswer} → colour ≡ symbol_colour (get_or s t.start 0) →
              answer ≡ unless_refused nine refused_colour (done_colour colour) → answer ≡ colour_answer asked s v
          unfolding colour_answer
          by_voxel colour {answer} h j =
              answer_last u 0 (sym its.not_refused) refused_colour _ answer s (voxel_refusal u v) a refl is_read
              (j ∙ rw (is_read, i) (ap (λ d. unless_refused (voxel_refusal u v) refused_colour (done_colour d)) (h ∙ its_colour)))
              ∙ same_colour

          pub colour_outside : (nine ≡ 0 → ⊥) → refused_colour nine ≡ colour_answer asked s v
          colour_outside n = by_voxel _ refl (is_refused refused_colour _ nine n)

          pub colour_found : nine ≡ 0 → (colour : Colour) → colour ≡ symbol_colour (get_or s t.start 0) → done_colour colour ≡ colour_answer asked s v
          colour_found y colour h = by_voxel colour h (is_done refused_colour (done_colour colour) nine y)
