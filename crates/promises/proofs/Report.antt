-- A REPORT: whatever bytes, window and row are given, each entry is the number of its frame's voxels at which the colour question tells BLACK, summed over the
-- expressions of the list, and the total is the sum of what their verdicts count. `Reported` (specs/Report.antt) lists it.
use Prim.Native.Nat.{ℕ, zero, suc, ◌+◌, ◌-◌, ◌≤◌, ◌<◌}
use mathlib.Core.Path.{◌≡◌, refl, sym, ap, ap₂, ◌∙◌}
use mathlib.Core.List.{List, [], ◌∷◌, ◌++◌, map}
use native.Mathlib.Decide.{ℕ_discrete, dec_le, dec_lt}
use native.Mathlib.Omega.{arith}
use borrow.Author.Tests.{eq-eqb, ne_eqb, lt-ltb, le-ltb}
use lib.ListN.{length, drop, length-append, length-drop, take-append-drop}
use lib.Seq.{drop-length, drop-drop, drop_at}
use Rattle.universe.specs.declared.Universe.{Universe}
use Rattle.universe.specs.Refusals.{bad_expression, no_room, first_refusal}
use Rattle.universe.specs.Lent.{room_refusal}
use Rattle.universe.specs.Universe.{universe_refusal, levels}
use Rattle.universe.proofs.Lent.{room_enough, room_short}
use Rattle.universe.proofs.Universes.{accepted}
use Rattle.bintree.specs.Told.{ColouredAnswer, NumbersAnswer}
use Rattle.bintree.specs.Shape.{Shape, symbols, size, depth}
use Rattle.bintree.specs.Reading.{expression_refusal}
use Rattle.bintree.specs.Parts.{colour_at}
use Rattle.bintree.specs.Verdicts.{window_length, voxels_in, verdict, numbers_answer}
use Rattle.bintree.proofs.Shape.{length_symbols}
use Rattle.bintree.proofs.Reading.{stands, inside, spells, spelt, stood, reads_back, read_is, accepted_shape}
use Rattle.bintree.proofs.Answers.{checks_read}
use Rattle.bintree.proofs.Verdicts.{numbers_accepted}
use Rattle.bintree.proofs.WindowAnswers.{window_accepted}
use Rattle.demands.specs.Voxels.{black_voxels_at}
use Rattle.demands.proofs.Voxels.{frame_same}
use Rattle.report.specs.Told.{ReportAnswer}
use Rattle.report.specs.Lists.{most_expressions, Listing, unread, shapes, list_of, shapes_of, list_refusal, listing_refusal, sum_over}
use Rattle.report.specs.Reports.{frame_voxels, frame_counts, total_voxels, list_checks, report_refusal, refused_report, short_report, done_report}
use Rattle.report.specs.Reports.{report_answer, report_row}
use Rattle.report.proofs.Lists.{Follow, nothing_follows, tree_follows, followed, follow_few, follow_fit, whole_list, Fit, none_fits, one_fits}
use Rattle.report.proofs.Sums.{over_cong}
use Rattle.report.proofs.Reports.{front_at, front_sum, total_shapes, total_most, counts_length}
use Rattle.report.proofs.Reports.{Taken, taken, refused_is, short_is, done_is, row_kept, row_set}
use Rattle.promises.specs.Shortest.{colours_of}
use Rattle.promises.specs.Report.{joined, AllFormed, none_left, one_more, IsList, voxels_told, Tallied, Reported}
use Rattle.promises.proofs.Keeping.{first_accepts, colour_accepted}

-- ---- the bytes of a list are its expressions, one straight after another
map_length : (list : List Shape) → length (map symbols list) ≡ length list
map_length [] = refl
map_length (a ∷ list) = ap suc (map_length list)

joined_from : {u : Universe} {s : List ℕ} {n p : ℕ} {list : List Shape} → Follow u s n p list → drop p s ≡ joined (map symbols list)
unfolding joined
joined_from {u} {s} (nothing_follows e) = rw e (drop-length s)
joined_from {u} {s} (tree_follows {p = p} {a = a} {list = list} r f) =
    sym (take-append-drop (size a) (drop p s))
    ∙ ap (λ (x : List ℕ). x ++ drop (size a) (drop p s)) (spells (stands s (levels u) p a r))
    ∙ ap (λ (x : List ℕ). symbols a ++ x) (drop-drop (size a) p s ∙ joined_from f)

all_formed : (u : Universe) → universe_refusal u ≡ 0 → {list : List Shape} → Fit (levels u) list → AllFormed u (map symbols list)
all_formed u ok none_fits = none_left
all_formed u ok (one_fits {a = a} d more) = one_more (checks_read u 0 (sym ok) (symbols a) a refl (reads_back u a d)) (all_formed u ok more)

module _ (u : Universe) (s : List ℕ) (ok : universe_refusal u ≡ 0) where
  list_of_lem : list_refusal u s ≡ 0 → IsList u s
  list_of_lem e =
      let w = whole_list u s e in
      record {
        expressions = map symbols (shapes_of (list_of u s));
        few = omega (arith, map_length (shapes_of (list_of u s)), follow_few w);
        formed = all_formed u ok (follow_fit w);
        are = joined_from w;
      }

  -- and such bytes are read as those expressions
  follows :
      (n p : ℕ) (expressions : List (List ℕ)) → AllFormed u expressions → length expressions ≤ n → p ≤ length s → drop p s ≡ joined expressions →
      (list : List Shape) × Follow u s n p list × (map symbols list ≡ expressions)
  unfolding joined
  follows n p [] none_left h k e = ([], nothing_follows {p = p} (omega (arith, length-drop p s, ap (length {A = ℕ}) e)), refl)
  follows zero p (x ∷ more) (one_more formed rest) h k e = absurd (omega arith)
  follows (suc n) p (x ∷ more) (one_more formed rest) h k e =
      let a = accepted_shape u x (first_accepts (expression_refusal u x) [] (first_accepts (universe_refusal u) (expression_refusal u x ∷ []) formed).1).0 in
      let w = read_is u x a.0 a.1 in
      let there : drop p s ≡ symbols a.0 ++ joined more = e ∙ ap (λ (y : List ℕ). y ++ joined more) (sym w.0) in
      let t = spelt s (levels u) p a.0 (joined more) w.1 there in
      let behind : drop (p + size a.0) s ≡ joined more =
      sym (drop-drop (size a.0) p s) ∙ ap (drop (size a.0)) there ∙ drop_at (symbols a.0) (joined more) (size a.0) (length_symbols a.0) in
      let f = follows n (p + size a.0) more rest (omega arith) (inside t) behind in
      (a.0 ∷ f.0, tree_follows (stood t) f.1, ap₂ ◌∷◌ w.0 f.2)

  module _ (l : IsList u s) where
    found : (list : List Shape) × Follow u s most_expressions 0 list × (map symbols list ≡ l.expressions)
    found = follows most_expressions 0 l.expressions l.formed l.few (omega arith) l.are

    is_taken_lem : list_refusal u s ≡ 0
    unfolding list_refusal list_of
    is_taken_lem = ap listing_refusal (followed found.1)

    -- whoever takes the bytes apart into expressions finds the same ones
    same_list : map symbols (shapes_of (list_of u s)) ≡ l.expressions
    unfolding list_of
    same_list = ap (λ x. map symbols (shapes_of x)) (followed found.1) ∙ found.2

  is_refused : (IsList u s → ⊥) → list_refusal u s ≡ bad_expression
  unfolding list_refusal
  is_refused n = go (list_of u s) refl
    where
      go : (x : Listing) → list_of u s ≡ x → list_refusal u s ≡ bad_expression
      go unread f = ap listing_refusal f
      go (shapes list) f = absurd (n (list_of_lem (ap listing_refusal f)))

-- ---- sums over the expressions are sums over their shapes
over_map : (f : List ℕ → ℕ) (list : List Shape) → sum_over (map symbols list) f ≡ sum_over list (λ a. f (symbols a))
unfolding sum_over
over_map f [] = refl
over_map f (a ∷ list) = ap (λ (n : ℕ). f (symbols a) + n) (over_map f list)

voxels_told_lem : (u : Universe) (a : Shape) (first last : ℕ) → voxels_told (verdict u a first last) ≡ voxels_in u a first last
unfolding verdict
voxels_told_lem u a first last = go (dec_lt 0 (voxels_in u a first last))
  where
    go : Dec (0 < voxels_in u a first last) → voxels_told (verdict u a first last) ≡ voxels_in u a first last
    go (yes h) = rw (lt-ltb 0 (voxels_in u a first last) h)
    go (no h) = rw (le-ltb 0 (voxels_in u a first last) (omega arith)) (omega arith)

module _ (u : Universe) (s : List ℕ) (first last : ℕ) (t : Taken u s first last) where
  abbrev list : List Shape
  list = shapes_of (list_of u s)

  fit : Fit (levels u) list
  fit = follow_fit (whole_list u s t.list)

  -- a shape has the colours that its expression answers with
  frame_colours : (c : ℕ) → c ≤ last → frame_voxels u list c ≡ sum_over (map symbols list) (λ e. black_voxels_at u (colours_of u e) c)
  frame_colours c h =
      over_cong (levels u) (λ a. black_voxels_at u (colour_at u a) c) (λ a. black_voxels_at u (colours_of u (symbols a)) c) one fit
      ∙ sym (over_map (λ e. black_voxels_at u (colours_of u e) c) list)
    where
      one : (a : Shape) → depth a ≤ levels u → black_voxels_at u (colour_at u a) c ≡ black_voxels_at u (colours_of u (symbols a)) c
      one a d =
          frame_same u (accepted u t.universe) (colour_at u a) (colours_of u (symbols a))
          (λ v w. sym (ap (λ (x : ColouredAnswer). x.colour) (colour_accepted u (symbols a) v a t.universe (reads_back u a d) w)))
          c (omega (arith, (window_accepted u first last t.window).inside))

  -- and what it has in the window is what its verdict counts
  total_verdicts : total_voxels u s first last ≡ sum_over (map symbols list) (λ e. voxels_told (numbers_answer u e first last).verdict)
  total_verdicts =
      total_shapes u s first last t.universe t.list
      ∙ over_cong (levels u) (λ a. voxels_in u a first last) (λ a. voxels_told (numbers_answer u (symbols a) first last).verdict) one fit
      ∙ sym (over_map (λ e. voxels_told (numbers_answer u e first last).verdict) list)
    where
      one : (a : Shape) → depth a ≤ levels u → voxels_in u a first last ≡ voxels_told (numbers_answer u (symbols a) first last).verdict
      one a d =
          sym (ap (λ (x : NumbersAnswer). voxels_told x.verdict) (numbers_accepted u (symbols a) first last a t.universe (reads_back u a d) t.window)
          ∙ voxels_told_lem u a first last)

-- ---- the checks, 6 behind the others
first_behind : (ns : List ℕ) (n : ℕ) → first_refusal (first_refusal ns ∷ n ∷ []) ≡ first_refusal (ns ++ (n ∷ []))
first_behind [] n = refl
first_behind (m ∷ ns) n = go (ℕ_discrete m 0) (first_behind ns n)
  where
    go :
        Dec (m ≡ 0) → first_refusal (first_refusal ns ∷ n ∷ []) ≡ first_refusal (ns ++ (n ∷ [])) →
        first_refusal (first_refusal (m ∷ ns) ∷ n ∷ []) ≡ first_refusal (m ∷ (ns ++ (n ∷ [])))
    go (yes z) ih = rw (eq-eqb m 0 z) ih
    go (no k) ih = rw (ne_eqb m 0 k, ne_eqb m 0 k)

module _ (u : Universe) (s : List ℕ) (first last : ℕ) (row : List ℕ) where
  abbrev given : ReportAnswer
  given = report_answer u s first last row

  abbrev number : ℕ
  number = report_refusal u s first last

  abbrev wide : ℕ
  wide = window_length first last

  -- what the answer is, one way of three
  data Way : Type 0 where
    refused : (number ≡ 0 → ⊥) → refused_report number ≡ given → Way
    short : number ≡ 0 → length row < wide → short_report wide ≡ given → Way
    done : number ≡ 0 → wide ≤ length row → done_report wide (total_voxels u s first last) ≡ given → Way

  way : Way
  way = go (ℕ_discrete number 0) (dec_le wide (length row))
    where
      go : Dec (number ≡ 0) → Dec (wide ≤ length row) → Way
      go (no n) k = refused n (refused_is u s first last row number refl n)
      go (yes z) (yes h) = done z h (done_is u s first last row number refl z h)
      go (yes z) (no h) = short z (omega arith) (short_is u s first last row number refl z (omega arith))

  told_number : Way → given.refusal ≡ first_refusal (number ∷ room_refusal (length row) wide ∷ [])
  told_number (refused n e) = rw (← e, ne_eqb number 0 n)
  told_number (short z h e) = rw (← e, eq-eqb number 0 z, room_short (length row) wide h)
  told_number (done z h e) = rw (← e, eq-eqb number 0 z, room_enough (length row) wide h)

  no_total : Way → (given.refusal ≡ 0 → ⊥) → given.total ≡ 0
  no_total (refused n e) h = rw (← e)
  no_total (short z k e) h = rw (← e)
  no_total (done z k e) h = absurd (h (rw (← e)))

  no_frames : Way → (number ≡ 0 → ⊥) → given.frames ≡ 0
  no_frames (refused n e) h = rw (← e)
  no_frames (short z k e) h = absurd (h z)
  no_frames (done z k e) h = absurd (h z)

  needed : Way → number ≡ 0 → length row < wide → (given.refusal ≡ no_room) × (given.frames ≡ wide)
  needed (refused n e) z h = absurd (n z)
  needed (short z k e) y h = (rw (← e), rw (← e))
  needed (done z k e) y h = absurd (omega arith)

  kept : Way → (given.refusal ≡ 0 → ⊥) → report_row u s first last row ≡ row
  kept x h = sym (row_kept u s first last row number refl {answer = given} refl h)

  -- what is told where nothing is refused
  accepts : Way → given.refusal ≡ 0 → Taken u s first last
  accepts (refused n e) z = absurd (n (ap (λ (a : ReportAnswer). a.refusal) e ∙ z))
  accepts (short y k e) z = absurd (omega (arith, ap (λ (a : ReportAnswer). a.refusal) e))
  accepts (done y k e) z = taken u s first last y

  told : Way → given.refusal ≡ 0 → (l : IsList u s) → Tallied u first last row given (report_row u s first last row) l.expressions
  told (refused n e) z l = absurd (n (ap (λ (a : ReportAnswer). a.refusal) e ∙ z))
  told (short y k e) z l = absurd (omega (arith, ap (λ (a : ReportAnswer). a.refusal) e))
  told (done y k e) z l =
      let t = taken u s first last y in
      let same = same_list u s t.universe l in
      let after = report_row u s first last row in
      let x : after ≡ frame_counts u s first last ++ drop wide row = sym (row_set u s first last row number refl {answer = given} refl z) in
      let total : given.total ≡ total_voxels u s first last = sym (ap (λ (a : ReportAnswer). a.total) e) in
      let long = counts_length u s first last in
      record {
        frames = sym (ap (λ (a : ReportAnswer). a.frames) e);
        long = ap (length {A = ℕ}) x ∙ length-append (frame_counts u s first last) (drop wide row) ∙ omega (arith, long, length-drop wide row);
        entry = λ c h i.
            let back : first + (c - first) ≡ c = omega arith in
            front_at u s first last after (drop wide row) x (c - first) (omega arith) ∙ rw (back, ← same) (frame_colours u s first last t c i);
        behind = ap (drop wide) x ∙ drop_at (frame_counts u s first last) (drop wide row) wide long;
        entries = front_sum u s first last after (drop wide row) x ∙ sym total;
        verdicts = total ∙ rw (← same) (total_verdicts u s first last t);
        most = omega (arith, total, total_most u s first last t.universe t.list t.window);
      }

  pub report_of : Reported u s first last row given (report_row u s first last row)
  report_of =
      record {
        number = told_number way ∙ first_behind (list_checks u s first last) (room_refusal (length row) wide);
        taken = λ ok l. is_taken_lem u s ok l;
        refused = λ ok n. is_refused u s ok n;
        no_total = no_total way;
        untouched = kept way;
        no_frames = no_frames way;
        needed = needed way;
        listed = λ z. let t = accepts way z in list_of_lem u s t.universe t.list;
        told = told way;
      }
