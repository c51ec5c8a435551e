-- What the functions of src/place.rt answer: whether a path is accepted, and where the part at a path stands, by a walk that follows the path's
-- halves. Each law takes its premises in the form that code leaves them.
use mathlib.Core.Path.{◌≡◌, refl, sym, ap, ap₂, ◌∙◌}
use mathlib.Core.List.{List, [], ◌∷◌}
use Prim.Native.Nat.{ℕ, suc, ◌+◌, ◌-◌, ◌≤◌, ◌<◌}
use native.Mathlib.Decide.{ℕ_discrete}
use native.Mathlib.Omega.{arith}
use borrow.Author.Rules.{rules}
use borrow.Author.Tests.{eq-eqb, ne_eqb}
use denote.Ref.{Bor}
use lib.ListN.{length, get_or, take, drop}
use Rattle.std.specs.Prelude.{Option, Some, None}
use Rattle.universe.specs.declared.Universe.{Universe}
use Rattle.universe.specs.declared.accepted.Accepted.{Accepted}
use Rattle.universe.specs.Accepting.{accepted_answer}
use Rattle.universe.specs.Refusals.{bad_expression, outside}
use Rattle.universe.specs.Universe.{levels}
use Rattle.universe.proofs.Acceptance.{accepted_number, accepted_same}
use Rattle.bintree.specs.declared.Colour.{Colour}
use Rattle.bintree.specs.declared.Colour.TheVariants.{White, Black}
use Rattle.bintree.specs.Told.{PlacedAnswer}
use Rattle.bintree.specs.declared.place.Traced.{Traced}
use Rattle.bintree.specs.Shape.{Shape, leaf, halved, open_symbol, symbol_of, size}
use Rattle.bintree.specs.Reading.{Reading, none, read, read_at, expression}
use Rattle.bintree.specs.Answers.{unless_refused}
use Rattle.bintree.specs.Parts.{part, part_start, path_refusal, refused_place, done_place}
use Rattle.bintree.specs.Parts.{place_answer, cut_at, part_answer, pointer_at, part_pointer}
use Rattle.bintree.specs.Walks.{walked, traced}
use Rattle.bintree.proofs.Reading.{leaf_at, other_at, end_at, deep_at, low_missing, high_missing, both_read}
use Rattle.bintree.proofs.Reading.{expression_none, expression_rest, expression_read}
use Rattle.bintree.proofs.Parts.{path_accepted, path_refused, part_empty, start_empty, placed_within}
use Rattle.bintree.proofs.Answers.{is_refused, is_done, answer_universe, answer_none, answer_last}
use Rattle.bintree.proofs.Walks.{Passed, passed, nowhere_none}

-- the laws of `check_path`
module _ (path : List ℕ) (u : Universe) where
  pub too_long : (count : ℕ) → count ≡ levels u → count < length path → outside ≡ path_refusal u path
  too_long count c h = sym (path_refused u path (λ w. omega (arith, w.short)))

  pub no_half : (i : ℕ) → i < length path → 1 < get_or path i 0 → outside ≡ path_refusal u path
  no_half i h k = sym (path_refused u path (λ w. omega (arith, w.halves i h)))

  pub halves_all : (count : ℕ) → count ≡ levels u → length path ≤ count → ((i : ℕ) → i < length path → get_or path i 0 ≤ 1) → 0 ≡ path_refusal u path
  halves_all count c k h = sym (path_accepted u path (record { short = omega arith; halves = λ i l. omega (arith, h i l) }))

-- an answer from what is read, and what is read from an answer
traced_none : (p : ℕ) (path : List ℕ) {x : Reading} → x ≡ none → None ≡ traced p x path
unfolding traced
traced_none p path e = rw e

pub lost_none : (p : ℕ) (path : List ℕ) (x : Reading) → None ≡ traced p x path → x ≡ none
unfolding traced
lost_none p path none w = refl
lost_none p path (read a) w = let z : ◌≡◌ {A = ℕ} 0 1 = cc in absurd (omega arith)

pub record Followed (p : ℕ) (t : Traced) (path : List ℕ) (x : Reading) : Type 0 where
  pub shape : Shape
  pub is : x ≡ read shape
  pub after : t.end ≡ p + size shape
  pub starts : t.start ≡ p + part_start shape path
  pub long : t.length ≡ size (part shape path)

pub followed : (p : ℕ) (t : Traced) (path : List ℕ) (x : Reading) → Some t ≡ traced p x path → Followed p t path x
unfolding traced
followed p t path none w = let z : ◌≡◌ {A = ℕ} 0 1 = cc in absurd (omega arith)
followed p t path (read a) w =
    let e : t ≡ record { end = p + size a; start = p + part_start a path; length = size (part a path) } = cc in
    record {
      shape = a;
      is = refl;
      after = ap (λ (z : Traced). z.end) e;
      starts = ap (λ (z : Traced). z.start) e;
      long = ap (λ (z : Traced). z.length) e;
    }

led : (p : ℕ) (t : Traced) (path : List ℕ) (x : Reading) → Followed p t path x → Some t ≡ traced p x path
unfolding traced
led p t path x w = rw (w.is, ← w.after, ← w.starts, ← w.long) refl

-- the laws of `all`: the whole tree is its part at the empty path
module _ (p : ℕ) (x : Reading) where
  pub all_none : None ≡ walked p x → None ≡ traced p x []
  all_none e = traced_none p [] (nowhere_none p x e)

  module _ (q : ℕ) (e : Some q ≡ walked p x) where
    pub all_ordered : p ≤ q
    all_ordered = omega (arith, (passed p q x e).after)

    pub all_some : Some (record { end = q; start = p; length = q - p }) ≡ traced p x []
    all_some =
        let w = passed p q x e in
        led p _ [] x (record {
          shape = w.shape;
          is = w.is;
          after = w.after;
          starts = omega (arith, start_empty w.shape);
          long = omega (arith, w.after, ap size (part_empty w.shape));
        })

-- a leaf is its own part at every path
traced_leaf : (p : ℕ) (c : Colour) (path : List ℕ) {x : Reading} → x ≡ read (leaf c) → traced p x [] ≡ traced p x path
unfolding traced part part_start
traced_leaf p c path e = rw e

traced_other : (p : ℕ) (path : List ℕ) {x : Reading} → x ≡ none → traced p x [] ≡ traced p x path
unfolding traced
traced_other p path e = rw e

-- the next half of a path
module _ (a b : Shape) (h : ℕ) (rest : List ℕ) where
  part_lower : h ≡ 0 → part (halved a b) (h ∷ rest) ≡ part a rest
  unfolding part
  part_lower z = rw (eq-eqb h 0 z)

  start_lower : h ≡ 0 → part_start (halved a b) (h ∷ rest) ≡ suc (part_start a rest)
  unfolding part_start
  start_lower z = rw (eq-eqb h 0 z)

  part_upper : (h ≡ 0 → ⊥) → part (halved a b) (h ∷ rest) ≡ part b rest
  unfolding part
  part_upper z = rw (ne_eqb h 0 z)

  start_upper : (h ≡ 0 → ⊥) → part_start (halved a b) (h ∷ rest) ≡ suc (size a + part_start b rest)
  unfolding part_start
  start_upper z = rw (ne_eqb h 0 z)

-- the laws of `trace`
module _ (s path : List ℕ) (n p : ℕ) where
  pub trace_end : length s ≤ p → None ≡ traced p (read_at s n p) path
  trace_end h = traced_none p path (end_at s n p h)

  pub trace_leaf : (get_or s p 0 ≡ open_symbol → ⊥) → traced p (read_at s n p) [] ≡ traced p (read_at s n p) path
  trace_leaf k = go (ℕ_discrete (get_or s p 0) (symbol_of Black)) (ℕ_discrete (get_or s p 0) (symbol_of White))
    where
      go : Dec (get_or s p 0 ≡ symbol_of Black) → Dec (get_or s p 0 ≡ symbol_of White) → traced p (read_at s n p) [] ≡ traced p (read_at s n p) path
      go (yes h) l = traced_leaf p Black path (leaf_at s n p Black h)
      go (no h) (yes l) = traced_leaf p White path (leaf_at s n p White l)
      go (no h) (no l) = traced_other p path (other_at s n p k h l)

  pub trace_deep : get_or s p 0 ≡ open_symbol → n ≡ 0 → None ≡ traced p (read_at s n p) path
  trace_deep e h = traced_none p path (ap (λ m. read_at s m p) h ∙ deep_at s p e)

  module _ (e : get_or s p 0 ≡ open_symbol) (deep : n ≡ 0 → ⊥) where
    -- no tree in the low part
    pub trace_low_lost : (rest : List ℕ) → None ≡ traced (p + 1) (read_at s (n - 1) (p + 1)) rest → None ≡ traced p (read_at s n p) path
    trace_low_lost rest f = traced_none p path (low_missing s n p e deep (lost_none (p + 1) rest (read_at s (n - 1) (p + 1)) f))

    pub trace_low_nowhere : None ≡ walked (p + 1) (read_at s (n - 1) (p + 1)) → None ≡ traced p (read_at s n p) path
    trace_low_nowhere f = traced_none p path (low_missing s n p e deep (nowhere_none (p + 1) (read_at s (n - 1) (p + 1)) f))

    module _ (h : ℕ) (rest : List ℕ) (is : path ≡ h ∷ rest) where
      -- the path leads into the low part, where it was followed, and the high part was walked over
      module _ (z : h ≡ 0) (t : Traced) (f : Some t ≡ traced (p + 1) (read_at s (n - 1) (p + 1)) rest) where
        low_followed : Followed (p + 1) t rest (read_at s (n - 1) (p + 1))
        low_followed = followed (p + 1) t rest (read_at s (n - 1) (p + 1)) f

        pub trace_high_nowhere : None ≡ walked t.end (read_at s (n - 1) t.end) → None ≡ traced p (read_at s n p) path
        trace_high_nowhere j =
            let w = low_followed in
            let gone = nowhere_none t.end (read_at s (n - 1) t.end) j in
            traced_none p path (high_missing s n p e deep w.shape w.is (ap (read_at s (n - 1)) (sym w.after) ∙ gone))

        pub trace_lower :
            (q : ℕ) → Some q ≡ walked t.end (read_at s (n - 1) t.end) →
            Some (record { end = q; start = t.start; length = t.length }) ≡ traced p (read_at s n p) path
        unfolding size
        trace_lower q j =
            let w = low_followed in
            let y = passed t.end q (read_at s (n - 1) t.end) j in
            rw is (led p _ (h ∷ rest) (read_at s n p) (record {
              shape = halved w.shape y.shape;
              is = both_read s n p e deep w.shape y.shape w.is (ap (read_at s (n - 1)) (sym w.after) ∙ y.is);
              after = omega (arith, w.after, y.after);
              starts = omega (arith, w.starts, start_lower w.shape y.shape h rest z);
              long = w.long ∙ ap size (sym (part_lower w.shape y.shape h rest z));
            }))

      -- the path leads into the high part, where it was followed after the low part was walked over
      module _ (z : h ≡ 0 → ⊥) (q : ℕ) (f : Some q ≡ walked (p + 1) (read_at s (n - 1) (p + 1))) where
        pub trace_upper : traced q (read_at s (n - 1) q) rest ≡ traced p (read_at s n p) path
        unfolding size
        trace_upper = go (traced q (read_at s (n - 1) q) rest) refl
          where
            w : Passed (p + 1) q (read_at s (n - 1) (p + 1))
            w = passed (p + 1) q (read_at s (n - 1) (p + 1)) f

            at_high : read_at s (n - 1) (p + 1 + size w.shape) ≡ read_at s (n - 1) q
            at_high = ap (read_at s (n - 1)) (sym w.after)

            go : (r : Option Traced) → r ≡ traced q (read_at s (n - 1) q) rest → r ≡ traced p (read_at s n p) path
            go None l = traced_none p path (high_missing s n p e deep w.shape w.is (at_high ∙ lost_none q rest (read_at s (n - 1) q) l))
            go (Some t) l =
                let y = followed q t rest (read_at s (n - 1) q) l in
                rw is (led p t (h ∷ rest) (read_at s n p) (record {
                  shape = halved w.shape y.shape;
                  is = both_read s n p e deep w.shape y.shape w.is (at_high ∙ y.is);
                  after = omega (arith, w.after, y.after);
                  starts = omega (arith, w.after, y.starts, start_upper w.shape y.shape h rest z);
                  long = y.long ∙ ap size (sym (part_upper w.shape y.shape h rest z));
                }))

-- the laws of `part_place`: a universe that is refused, and an accepted one, of which the path is followed from the first symbol on
pub place_refused :
    (u : Universe) (s path : List ℕ) {n : ℕ} {v : Universe} → record { refusal = n; universe = v } ≡ accepted_answer u → (n ≡ 0 → ⊥) →
    refused_place n ≡ place_answer u s path
unfolding place_answer
place_refused u s path {n} told h = answer_universe u n (accepted_number u told) s (path_refusal u path ∷ []) refused_place _ _ h refl

module _ (asked : Universe) (a : Accepted) (s path : List ℕ) (told : record { refusal = 0; universe = a.universe } ≡ accepted_answer asked) where
  abbrev u : Universe
  u = a.universe

  same_place : place_answer u s path ≡ place_answer asked s path
  same_place = ap (λ v. place_answer v s path) (accepted_same asked told refl)

  seven : expression u s ≡ none → refused_place bad_expression ≡ place_answer asked s path
  unfolding place_answer
  seven x = answer_none u 0 (sym a.not_refused) s (path_refusal u path ∷ []) refused_place _ _ refl x refl ∙ same_place

  module _ (count : ℕ) (c : count ≡ levels a.universe) where
    all_traced : {r : Option Traced} → r ≡ traced 0 (read_at s count 0) path → r ≡ traced 0 (read_at s (levels u) 0) path
    all_traced f = f ∙ ap (λ n. traced 0 (read_at s n 0) path) c

    pub place_lost : None ≡ traced 0 (read_at s count 0) path → refused_place bad_expression ≡ place_answer asked s path
    place_lost f = seven (expression_none u s (lost_none 0 path (read_at s (levels u) 0) (all_traced f)))

    module _ (t : Traced) (f : Some t ≡ traced 0 (read_at s count 0) path) where
      pub first_followed : Followed 0 t path (read_at s (levels u) 0)
      first_followed = followed 0 t path (read_at s (levels u) 0) (all_traced f)

      pub place_rest : (t.end ≡ length s → ⊥) → refused_place bad_expression ≡ place_answer asked s path
      place_rest n = let w = first_followed in seven (expression_rest u s w.shape w.is (λ k. n (omega (arith, w.after))))

      module _ (l : t.end ≡ length s) (nine : ℕ) (i : nine ≡ path_refusal a.universe path) where
        by_path :
            {answer : PlacedAnswer} → answer ≡ unless_refused nine refused_place (done_place t.start t.length) → answer ≡ place_answer asked s path
        unfolding place_answer
        by_path {answer} h =
            let w = first_followed in
            let x = expression_read u s w.shape w.is (omega (arith, w.after)) in
            let starts : t.start ≡ part_start w.shape path = omega (arith, w.starts) in
            answer_last u 0 (sym a.not_refused) refused_place _ answer s (path_refusal u path) w.shape refl x
            (h ∙ rw (x, i) (ap₂ (λ b n. unless_refused (path_refusal u path) refused_place (done_place b n)) starts w.long))
            ∙ same_place

        pub place_outside : (nine ≡ 0 → ⊥) → refused_place nine ≡ place_answer asked s path
        place_outside n = by_path (is_refused refused_place (done_place t.start t.length) nine n)

        pub place_found : nine ≡ 0 → done_place t.start t.length ≡ place_answer asked s path
        place_found y = by_path (is_done refused_place (done_place t.start t.length) nine y)

-- the laws of `part`: the place is inside the expression, and the cut there is handed back
module _ (u : Universe) (s path : List ℕ) (r : PlacedAnswer) (e : r ≡ place_answer u s path) where
  pub cut_within : r.start + r.length ≤ length s
  cut_within = rw e (placed_within u s path)

  pub cut_answer : take (r.start + r.length - r.start) (drop r.start s) ≡ part_answer u s path
  unfolding part_answer
  cut_answer =
      let long : r.start + r.length - r.start ≡ r.length = omega arith in
      rw long (ap (cut_at s) e)

-- and the cut points as far behind the expression's front as it starts
pub cut_points :
    (u : Universe) (lent : Bor (List ℕ)) (path : List ℕ) (r : PlacedAnswer) → r ≡ place_answer u lent.now path →
    (lent.ref_ptr.0, r.start + lent.ref_ptr.1) ≡ part_pointer u lent path
unfolding part_pointer
cut_points u lent path r e = ap (pointer_at lent) e

pub ruleset part_laws = (rules, cut_within, cut_answer, cut_points)
