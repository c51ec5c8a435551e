-- The values that move with the blocks: they stay right where codes stay and where what is left of the trees is carried on; moved up they are those of the
-- high half, and moved down again all is as it was.
use Prim.Native.Nat.{ℕ, zero, suc, ◌+◌, ◌-◌, ◌/◌, ◌≤◌, ◌<◌}
use mathlib.Core.Path.{◌≡◌, refl, sym, ap, ◌∙◌, subst}
use mathlib.Core.Bool.{Bool, true, false, cond, false≢true}
use mathlib.Core.Logic.{◌⊎◌, inl, inr, ⊎_elim}
use mathlib.Core.List.{List, [], ◌∷◌, ◌++◌}
use native.Mathlib.Omega.{arith}
use lib.IntN.{ℤ, pos, nat_abs, ◌+ℤ◌, ◌-ℤ◌, ◌*ℤ◌}
use lib.ListN.{length, get_or, set, replicate, length-replicate, get_or-replicate}
use lib.Seq.{get_or-set_same, get_or-set_other, ext_get_or}
use Rattle.lemmas.specs.Sums.{total}
use Rattle.lemmas.proofs.Whole.{ι, ν, ◌⊕◌, ◌⊖◌, ◌⊗◌, eq_by}
use Rattle.universe.specs.Universe.{most_axes, levels}
use Rattle.universe.specs.declared.Universe.{Universe}
use Rattle.universe.specs.declared.Block.{Block}
use Rattle.bintree.specs.declared.Colour.{Colour}
use Rattle.bintree.specs.declared.Colour.TheVariants.{White, Black}
use Rattle.csg.specs.Halfspace.{Halfspace, Mark, decided, undecided, most_rows, row_at, row_count}
use Rattle.csg.specs.Surfaces.{Surfaces, Surface, halfspace, ball, Named, named, IsNamed, halfspace_named}
use Rattle.csg.specs.Tree.{Plain, colour, side, union_of, intersection_of}
use Rattle.convert.specs.Small.{SmallPlaces, SmallHalfspace}
use Rattle.convert.specs.Blocks.{high_lows}
use Rattle.convert.proofs.Blocks.{half_is}
use Rattle.csg.specs.Marks.{side_mark}
use Rattle.pruned.specs.Left.{Left, settled, still, side_left, left_by, left, kept, all_left}
use Rattle.pruned.specs.Nodes.{Node, of_colour, of_side, joining, join_left, left_nodes, postfix, all_postfix, node_code, SidesNamed, colour_named, side_named}
use Rattle.pruned.specs.Nodes.{union_named, intersection_named, OneOrTwo, one, two}
use Rattle.pruned.specs.Laying.{SoundScene}
use Rattle.pruned.proofs.Steps.{rows_few, rows_small}
use Rattle.masks.proofs.Leaves.{total_one}
use Rattle.at_once.specs.Codes.{HoldsCodes, no_code, code, SameCodes, block_at, Carrying}
use Rattle.at_once.specs.Values.{along_of, is_row_side}
use Rattle.at_once.specs.Words.{RowNamed}
use Rattle.at_once.specs.Pruning.{PruneJob, PrunedCodes}
use Rattle.at_once.specs.Counting.{BlockJob, PutBack}
use Rattle.at_once.specs.Moves.{row_of, low_value, step_along, stepped, low_limit, names_row, PowerPlace, RowValue, ValueOf, ValuesAt, MoveJob, Moved, Unmoved}
use Rattle.at_once.specs.Moves.{Begun}
use Rattle.at_once.proofs.RowValues.{low_few}
use Rattle.at_once.proofs.Jobs.{axis_within, carrying_same, standing', at_level, upper_at}
use Rattle.at_once.proofs.Powers.{side_power}
use Rattle.at_once.proofs.Leaves.{upto_ball}
use Rattle.at_once.proofs.Rounds.{names_all, names_some, names_same}

-- nothing has moved
pub unmoved : {values : List ℤ} {rounds : List ℕ} → Unmoved values rounds values rounds
unmoved = record { values_are = refl; rounds_are = refl }

-- ---- codes that each stand elsewhere too
module _ {rows : List ℤ} {low codes codes' : List ℕ} {from from' count count' : ℕ} {values : List ℤ} {rounds : List ℕ} {round : ℕ}
    (there : (k : ℕ) → k < count' → (j : ℕ) × (j < count) × (get_or codes (from + j) 0 ≡ get_or codes' (from' + k) 0)) where
  elsewhere : ValuesAt rows low codes from count values rounds round → ValuesAt rows low codes' from' count' values rounds round
  elsewhere at =
      record {
        right = record { at_code = λ k l. let w = there k l in subst (ValueOf rows low values) w.2 (at.right.at_code w.0 w.1) };
        values_long = at.values_long;
        rounds_long = at.rounds_long;
        is_round = at.is_round;
        at_round = λ k l. let w = there k l in
            subst (λ (c : ℕ). is_row_side c ≡ true → get_or rounds (row_of c) 0 ≡ round) w.2 (at.at_round w.0 w.1);
      }

pub same_values : {rows : List ℤ} {low codes codes' : List ℕ} {from count : ℕ} {values values' : List ℤ} {rounds rounds' : List ℕ} {round : ℕ} →
    SameCodes (from + count) codes codes' → Unmoved values rounds values' rounds' → ValuesAt rows low codes from count values rounds round →
    ValuesAt rows low codes' from count values' rounds' round
same_values {rows} {low} {codes} {codes'} {from} {count} {round = round} s m at =
    let e : ValuesAt rows low codes' from count _ _ round = elsewhere (λ k l. (k, l, sym (s.same (from + k) (omega arith)))) at in
    rw (m.values_are, m.rounds_are) e

-- ---- what is left of the trees has no other nodes
data In (n : Node) : List Node → Type 0 where
  here : {ns : List Node} → In n (n ∷ ns)
  later : {m : Node} {ns : List Node} → In n ns → In n (m ∷ ns)

in_front_lem : {n : Node} {xs : List Node} (ys : List Node) → In n xs → In n (xs ++ ys)
in_front_lem ys here = here
in_front_lem ys (later i) = later (in_front_lem ys i)

in_back : {n : Node} (xs : List Node) {ys : List Node} → In n ys → In n (xs ++ ys)
in_back [] i = i
in_back (x ∷ xs) i = later (in_back xs i)

in_both : {n : Node} (xs : List Node) {ys : List Node} → In n (xs ++ ys) → In n xs ⊎ In n ys
in_both [] i = inr i
in_both (x ∷ xs) here = inl here
in_both (x ∷ xs) (later i) = ⊎_elim (λ j. inl (later j)) (λ j. inr j) (in_both xs i)

module _ {n : Node} (P Q : List Node) where
  both_still : (meet : Bool) (p q : Plain) → (In n (postfix p) → In n P) → (In n (postfix q) → In n Q) →
      In n (postfix p ++ (postfix q ++ (joining meet ∷ []))) → In n (P ++ (Q ++ (joining meet ∷ [])))
  both_still meet p q f g i =
      ⊎_elim (λ j. in_front_lem (Q ++ (joining meet ∷ [])) (f j))
      (λ j. in_back P (⊎_elim (λ k. in_front_lem (joining meet ∷ []) (g k)) (λ k. in_back Q k) (in_both (postfix q) j)))
      (in_both (postfix p) i)

  joined_in : (meet : Bool) (x y : Left) → (In n (left_nodes x) → In n P) → (In n (left_nodes y) → In n Q) → In n (left_nodes (join_left meet x y)) →
      In n (P ++ (Q ++ (joining meet ∷ [])))
  unfolding postfix
  joined_in false (settled White) y f g i = in_back P (in_front_lem (joining false ∷ []) (g i))
  joined_in false (still p) (settled White) f g i = in_front_lem (Q ++ (joining false ∷ [])) (f i)
  joined_in false (still p) (still q) f g i = both_still false p q f g i
  joined_in true (settled Black) y f g i = in_back P (in_front_lem (joining true ∷ []) (g i))
  joined_in true (still p) (settled Black) f g i = in_front_lem (Q ++ (joining true ∷ [])) (f i)
  joined_in true (still p) (still q) f g i = both_still true p q f g i
  joined_in false (settled Black) y f g i = elim i [ ]
  joined_in false (still p) (settled Black) f g i = elim i [ ]
  joined_in true (settled White) y f g i = elim i [ ]
  joined_in true (still p) (settled White) f g i = elim i [ ]

left_in : {n : Node} (marks : Bool → Surface → Mark) (p : Plain) → In n (left_nodes (left_by marks p)) → In n (postfix p)
unfolding left_by postfix
left_in {n = n} marks (colour _) i = elim i [ ]
left_in {n = n} marks (side turned s) i = by (marks turned s) i
  where
    by : (m : Mark) → In n (left_nodes (side_left turned s m)) → In n (of_side turned s ∷ [])
    by undecided i = i
    by (decided _) i = elim i [ ]
left_in marks (union_of p q) i = joined_in (postfix p) (postfix q) false (left_by marks p) (left_by marks q) (left_in marks p) (left_in marks q) i
left_in marks (intersection_of p q) i = joined_in (postfix p) (postfix q) true (left_by marks p) (left_by marks q) (left_in marks p) (left_in marks q) i

kept_in : {n : Node} (x : Left) (P : List Node) (ps : List Plain) (ns : List Node) → (In n (left_nodes x) → In n P) → (In n (all_postfix ps) → In n ns) →
    In n (all_postfix (kept x ps)) → In n (P ++ ns)
unfolding all_postfix
kept_in (settled c) P ps ns f g i = in_back P (g i)
kept_in (still p) P ps ns f g i = ⊎_elim (λ j. in_front_lem ns (f j)) (λ j. in_back P (g j)) (in_both (postfix p) i)

all_left_in : {n : Node} (surfaces : Surfaces) (ps : List Plain) (b : Block) → In n (all_postfix (all_left surfaces ps b)) → In n (all_postfix ps)
unfolding all_left all_postfix
all_left_in {n = n} surfaces [] b i = elim i [ ]
all_left_in surfaces (p ∷ ps) b i =
    kept_in (left surfaces p b) (postfix p) (all_left surfaces ps b) (all_postfix ps) (left_in (λ turned s. side_mark surfaces turned s b) p)
    (all_left_in surfaces ps b) i

-- ---- the nodes at places
holds_at : {room : List ℕ} {at : ℕ} {ns : List Node} → HoldsCodes room at ns → (k : ℕ) → k < length ns →
    (n : Node) × In n ns × (get_or room (at + k) 0 ≡ node_code n)
holds_at no_code k l = absurd (omega arith)
holds_at {room} {at} (code {n = n} c r) zero l = let e : at + 0 ≡ at = omega arith in (n, here, ap (λ (k : ℕ). get_or room k 0) e ∙ c)
holds_at {room} {at} (code c r) (suc k) l =
    let w = holds_at r k (omega arith) in
    let e : at + suc k ≡ suc at + k = omega arith in
    (w.0, later w.1, ap (λ (k : ℕ). get_or room k 0) e ∙ w.2)

place_of : {room : List ℕ} {at : ℕ} {n : Node} {ns : List Node} → HoldsCodes room at ns → In n ns →
    (k : ℕ) × (k < length ns) × (get_or room (at + k) 0 ≡ node_code n)
place_of {room = room} {n = n} (no_code {at = at}) i = elim i [ ]
place_of {room} {at} (code c r) here = let e : at + 0 ≡ at = omega arith in (0, omega arith, ap (λ (k : ℕ). get_or room k 0) e ∙ c)
place_of {room} {at} (code c r) (later i) =
    let w = place_of r i in
    let e : at + suc w.0 ≡ suc at + w.0 = omega arith in
    (suc w.0, omega (arith, w.1), ap (λ (k : ℕ). get_or room k 0) e ∙ w.2)

pub kept_values : {surfaces : Surfaces} {axes : ℕ} {low side codes codes' : List ℕ} {from count mark nodes : ℕ}
    (job : PruneJob surfaces axes low side codes from count) → PrunedCodes job codes' mark nodes →
    {rows values : List ℤ} {rounds : List ℕ} {round : ℕ} → ValuesAt rows low codes from count values rounds round →
    ValuesAt rows low codes' (from + count) nodes values rounds round
kept_values {surfaces} {codes = codes} {codes'} {from} {count} {nodes = nodes} job pruned at = elsewhere there at
  where
    there : (k : ℕ) → k < nodes → (j : ℕ) × (j < count) × (get_or codes (from + j) 0 ≡ get_or codes' (from + count + k) 0)
    there k l =
        let w = holds_at pruned.holds k (omega (arith, pruned.counted)) in
        let v = place_of job.carried.holds (all_left_in surfaces job.carried.trees (block_at job.at) w.1) in
        (v.0, omega (arith, v.1, job.carried.counted), v.2 ∙ sym w.2)

-- ---- the rows that codes name are there
data NodeNamed (names : Named) : Node → Type 0 where
  a_colour : {c : Colour} → NodeNamed names (of_colour c)
  a_joining : {meet : Bool} → NodeNamed names (joining meet)
  a_side : {turned : Bool} {s : Surface} → IsNamed names s → NodeNamed names (of_side turned s)

module _ (names : Named) where
  last_named : {n : Node} {meet : Bool} → In n (joining meet ∷ []) → NodeNamed names n
  last_named here = a_joining
  last_named {n = n} {meet = meet} (later i) = elim i [ ]

  joins_named : {n : Node} (meet : Bool) (P Q : List Node) → (In n P → NodeNamed names n) → (In n Q → NodeNamed names n) →
      In n (P ++ (Q ++ (joining meet ∷ []))) → NodeNamed names n
  joins_named meet P Q f g i = ⊎_elim f (λ j. ⊎_elim g last_named (in_both Q j)) (in_both P i)

  tree_named : {n : Node} {p : Plain} → SidesNamed names p → In n (postfix p) → NodeNamed names n
  unfolding postfix
  tree_named colour_named here = a_colour
  tree_named (side_named s) here = a_side s
  tree_named {n = n} (colour_named {c = c}) (later i) = elim i [ ]
  tree_named {n = n} (side_named {turned = turned} s) (later i) = elim i [ ]
  tree_named (union_named {p} {q} a b) i = joins_named false (postfix p) (postfix q) (tree_named a) (tree_named b) i
  tree_named (intersection_named {p} {q} a b) i = joins_named true (postfix p) (postfix q) (tree_named a) (tree_named b) i

  all_named : {n : Node} {ps : List Plain} → OneOrTwo names ps → In n (all_postfix ps) → NodeNamed names n
  unfolding all_postfix
  all_named (one {p} a) i = ⊎_elim (tree_named a.sides) (elim [ ]) (in_both (postfix p) i)
  all_named (two {p} {q} a b) i =
      ⊎_elim (tree_named a.sides) (λ j. ⊎_elim (tree_named b.sides) (elim [ ]) (in_both (postfix q) j)) (in_both (postfix p) i)

  row_there : (n : Node) → NodeNamed names n → is_row_side (node_code n) ≡ true → row_of (node_code n) < names.halfspaces
  row_there (of_colour White) m e = absurd (false≢true e)
  row_there (of_colour Black) m e = absurd (false≢true e)
  row_there (joining false) m e = absurd (false≢true e)
  row_there (joining true) m e = absurd (false≢true e)
  row_there (of_side true (halfspace i)) (a_side (halfspace_named l)) e = omega arith
  row_there (of_side false (halfspace i)) (a_side (halfspace_named l)) e = omega arith
  row_there (of_side true (ball i)) m e = absurd (omega (arith, upto_ball (node_code (of_side true (ball i))) e))
  row_there (of_side false (ball i)) m e = absurd (omega (arith, upto_ball (node_code (of_side false (ball i))) e))

-- of codes that stand, and of those that are carried
pub named_rows : {names : Named} {rows : List ℤ} → names.halfspaces ≡ row_count rows → ((i : ℕ) → i < row_count rows → SmallHalfspace (row_at rows i)) →
    {ps : List Plain} → OneOrTwo names ps → {codes : List ℕ} {from count : ℕ} → HoldsCodes codes from (all_postfix ps) → count ≡ length (all_postfix ps) →
    (k : ℕ) → k < count → is_row_side (get_or codes (from + k) 0) ≡ true → RowNamed rows (row_of (get_or codes (from + k) 0))
named_rows {names} {rows} rows_are small few holds counted k l e =
    let w = holds_at holds k (omega (arith, counted)) in
    let f : is_row_side (node_code w.0) ≡ true = sym (ap is_row_side w.2) ∙ e in
    let here : row_of (node_code w.0) < row_count rows = omega (arith, row_there names w.0 (all_named names few w.1) f, rows_are) in
    rw w.2 (record { here = here; small = small (row_of (node_code w.0)) here })

rows_named : {surfaces : Surfaces} {u : Universe} → SoundScene u surfaces → {codes : List ℕ} {from count : ℕ} → Carrying surfaces codes from count →
    (k : ℕ) → k < count → is_row_side (get_or codes (from + k) 0) ≡ true → RowNamed surfaces.rows (row_of (get_or codes (from + k) 0))
rows_named {surfaces} scene carrying = named_rows {names = named surfaces} refl (rows_small scene) carrying.few carrying.holds carrying.counted

-- ---- a value so far along an axis
value_along : (h : Halfspace) (low : List ℕ) (axis half : ℕ) → length low ≡ most_axes → axis < most_axes →
    low_value h low +ℤ h.coefficient axis *ℤ pos half ≡ low_value h (set low axis (get_or low axis 0 + half))
value_along h low axis half e l =
    sym (ap (λ (x : ℤ). h.offset +ℤ x)
    (total_one most_axes axis (along_of h low) (along_of h (set low axis (get_or low axis 0 + half))) (h.coefficient axis *ℤ pos half) l
    (λ i m k. ap (λ (x : ℕ). h.coefficient i *ℤ pos x) (get_or-set_other low axis i (get_or low axis 0 + half) 0 (λ q. k (sym q))))
    (ap (λ (x : ℕ). h.coefficient axis *ℤ pos x) (get_or-set_same low axis (get_or low axis 0 + half) 0 (omega arith))
    ∙ further (h.coefficient axis) (get_or low axis 0)))
    ∙ around h.offset (total most_axes (along_of h low)) (h.coefficient axis *ℤ pos half))
  where
    further : (c : ℤ) (x : ℕ) → c *ℤ pos (x + half) ≡ c *ℤ pos x +ℤ c *ℤ pos half
    further c x = eq_by (ι c ⊗ ν (x + half)) (ι c ⊗ ν x ⊕ ι c ⊗ ν half) (omega arith)

    around : (o t k : ℤ) → o +ℤ (t +ℤ k) ≡ o +ℤ t +ℤ k
    around o t k = eq_by (ι o ⊕ (ι t ⊕ ι k)) (ι o ⊕ ι t ⊕ ι k) (omega arith)

undone : (b : Bool) (v d : ℤ) → cond b (cond b (v +ℤ d) v -ℤ d) (cond b (v +ℤ d) v) ≡ v
undone true v d = eq_by (ι v ⊕ ι d ⊖ ι d) (ι v) (omega arith)
undone false v d = refl

-- ---- half of a block's length is a power of two
module _ {surfaces : Surfaces} {axes : ℕ} {table lengths low side : List ℕ} {left : ℕ} {codes : List ℕ} {from count : ℕ}
    (job : BlockJob surfaces axes table lengths low side left codes from count left) (some : 1 ≤ left) where
  pub half_power : PowerPlace (get_or side (get_or table (left - 1) 0) 0 / 2)
  half_power =
      let u = job.at.universe in
      let axis = get_or table (left - 1) 0 in
      side_power u (levels u - (left - 1)) axis
      (half_is u job.at.scene.accepted_universe (left - 1) low side (standing' job some) axis (at_level job some))
      (omega (arith, (job.at.standing.inside axis).most))

-- ---- into the high half of a block and out of it
module _ {surfaces : Surfaces} {axes : ℕ} {table lengths low side : List ℕ} {left : ℕ} {codes : List ℕ} {from count : ℕ}
    (job : BlockJob surfaces axes table lengths low side left codes from count left) (some : 1 ≤ left) {values : List ℤ} {rounds : List ℕ} {round : ℕ}
    (at : ValuesAt surfaces.rows low codes from count values rounds round) where
  abbrev axis : ℕ
  axis = get_or table (left - 1) 0

  abbrev half : ℕ
  half = get_or side axis 0 / 2

  module _ {codes₁ : List ℕ} {values₁ : List ℤ} {rounds₁ : List ℕ} (s : SameCodes (from + count) codes codes₁)
      (m : Unmoved values rounds values₁ rounds₁) where
    at₁ : ValuesAt surfaces.rows low codes₁ from count values₁ rounds₁ round
    at₁ = same_values s m at

    carrying₁ : Carrying surfaces codes₁ from count
    carrying₁ = carrying_same s job.carrying

    few_value : (k : ℕ) → k < count → is_row_side (get_or codes₁ (from + k) 0) ≡ true → nat_abs (get_or values₁ (row_of (get_or codes₁ (from + k) 0)) (pos 0)) ≤ low_limit
    few_value k l e =
        rw ((at₁.right.at_code k l).row e).value_is
        (low_few (rows_named job.at.scene carrying₁ k l e).small low_small)
      where
        low_small : SmallPlaces low
        low_small = record { place = λ i. record { most = omega (arith, (job.at.standing.inside i).most) } }

    pub raise_job : MoveJob surfaces.rows axis half codes₁ from count values₁ rounds₁ round
    raise_job =
        record {
          axis_few = axis_within job some;
          power = half_power job some;
          few_rows = rows_few job.at.universe surfaces.rows job.at.scene.accepted_rows;
          inside = carrying₁.inside;
          bounded = omega (arith, s.long, job.bounded);
          values_long = at₁.values_long;
          rounds_long = at₁.rounds_long;
          is_round = at₁.is_round;
          named = rows_named job.at.scene carrying₁;
          at_round = at₁.at_round;
          small = few_value;
        }

    module _ {values₂ : List ℤ} {rounds₂ : List ℕ}
        (up : Moved true surfaces.rows axis half codes₁ from count round values₁ rounds₁ values₂ rounds₂) where
      row_below : (k : ℕ) → k < count → is_row_side (get_or codes₁ (from + k) 0) ≡ true → row_of (get_or codes₁ (from + k) 0) < most_rows
      row_below k l e = ((at₁.right.at_code k l).row e).few

      value_above : (k : ℕ) → k < count → is_row_side (get_or codes₁ (from + k) 0) ≡ true →
          RowValue surfaces.rows (high_lows low side axis) values₂ (row_of (get_or codes₁ (from + k) 0))
      value_above k l e =
          let row = row_of (get_or codes₁ (from + k) 0) in
          let v = (at₁.right.at_code k l).row e in
          let h = row_at surfaces.rows row in
          record {
            long = up.values_long;
            few = v.few;
            value_is = up.value_is row v.few
                ∙ ap (λ (b : Bool). cond b (stepped true (get_or values₁ row (pos 0)) (step_along surfaces.rows row axis half)) (get_or values₁ row (pos 0)))
                (names_all codes₁ from count k l e)
                ∙ ap (λ (z : ℤ). z +ℤ step_along surfaces.rows row axis half) v.value_is
                ∙ value_along h low axis half job.at.standing.low_places_lem (axis_within job some);
          }

      round_above : (k : ℕ) → k < count → is_row_side (get_or codes₁ (from + k) 0) ≡ true → get_or rounds₂ (row_of (get_or codes₁ (from + k) 0)) 0 ≡ 1 - round
      round_above k l e =
          let row = row_of (get_or codes₁ (from + k) 0) in
          up.round_is row (row_below k l e) ∙ ap (λ (b : Bool). cond b (1 - round) (get_or rounds₁ row 0)) (names_all codes₁ from count k l e)

      pub raised : ValuesAt surfaces.rows (high_lows low side axis) codes₁ from count values₂ rounds₂ (1 - round)
      raised =
          record {
            right = record { at_code = λ k l. record { row = value_above k l } };
            values_long = up.values_long;
            rounds_long = up.rounds_long;
            is_round = omega (arith, at.is_round);
            at_round = round_above;
          }

      module _ {codes₃ : List ℕ} {values₃ : List ℤ} {rounds₃ : List ℕ} (t : SameCodes (from + count) codes₁ codes₃)
          (n : Unmoved values₂ rounds₂ values₃ rounds₃) where
        at₃ : ValuesAt surfaces.rows (high_lows low side axis) codes₃ from count values₃ rounds₃ (1 - round)
        at₃ = same_values t n raised

        carrying₃ : Carrying surfaces codes₃ from count
        carrying₃ = carrying_same t carrying₁

        few_above : (k : ℕ) → k < count → is_row_side (get_or codes₃ (from + k) 0) ≡ true →
            nat_abs (get_or values₃ (row_of (get_or codes₃ (from + k) 0)) (pos 0)) ≤ low_limit
        few_above k l e =
            rw ((at₃.right.at_code k l).row e).value_is (low_few (rows_named job.at.scene carrying₃ k l e).small high_small)
          where
            high_small : SmallPlaces (high_lows low side axis)
            high_small = record { place = λ i. record { most = omega (arith, ((upper_at job some).standing.inside i).most) } }

        pub back_job : MoveJob surfaces.rows axis half codes₃ from count values₃ rounds₃ (1 - round)
        back_job =
            record {
              axis_few = axis_within job some;
              power = half_power job some;
              few_rows = rows_few job.at.universe surfaces.rows job.at.scene.accepted_rows;
              inside = carrying₃.inside;
              bounded = omega (arith, s.long, t.long, job.bounded);
              values_long = at₃.values_long;
              rounds_long = at₃.rounds_long;
              is_round = at₃.is_round;
              named = rows_named job.at.scene carrying₃;
              at_round = at₃.at_round;
              small = few_above;
            }

        pub back : {values₄ : List ℤ} {rounds₄ : List ℕ} →
            Moved false surfaces.rows axis half codes₃ from count (1 - round) values₃ rounds₃ values₄ rounds₄ → Unmoved values rounds values₄ rounds₄
        back {values₄} {rounds₄} down =
            record {
              values_are = ext_get_or (pos 0) values₄ values (down.values_long ∙ sym at.values_long) value;
              rounds_are = ext_get_or 0 rounds₄ rounds (down.rounds_long ∙ sym at.rounds_long) its_round;
            }
          where
            value : (row : ℕ) → row < length values₄ → get_or values₄ row (pos 0) ≡ get_or values row (pos 0)
            value row l =
                let r : row < most_rows = omega (arith, down.values_long) in
                let b : Bool = names_row codes₁ from count row in
                let d : ℤ = step_along surfaces.rows row axis half in
                let v : ℤ = get_or values row (pos 0) in
                let same : names_row codes₃ from count row ≡ b = names_same codes₁ codes₃ from count row (λ k h. t.same (from + k) (omega arith)) in
                let moved : get_or values₃ row (pos 0) ≡ cond b (v +ℤ d) v =
                ap (λ (vs : List ℤ). get_or vs row (pos 0)) n.values_are
                ∙ up.value_is row r
                ∙ ap (λ (vs : List ℤ). cond b (get_or vs row (pos 0) +ℤ d) (get_or vs row (pos 0))) m.values_are in
                down.value_is row r
                ∙ ap (λ (x : Bool). cond x (get_or values₃ row (pos 0) -ℤ d) (get_or values₃ row (pos 0))) same
                ∙ ap (λ (z : ℤ). cond b (z -ℤ d) z) moved
                ∙ undone b v d

            its_round : (row : ℕ) → row < length rounds₄ → get_or rounds₄ row 0 ≡ get_or rounds row 0
            its_round row l =
                let r : row < most_rows = omega (arith, down.rounds_long) in
                let b : Bool = names_row codes₁ from count row in
                let same : names_row codes₃ from count row ≡ b = names_same codes₁ codes₃ from count row (λ k h. t.same (from + k) (omega arith)) in
                let moved : get_or rounds₃ row 0 ≡ cond b (1 - round) (get_or rounds row 0) =
                ap (λ (vs : List ℕ). get_or vs row 0) n.rounds_are
                ∙ up.round_is row r
                ∙ ap (λ (vs : List ℕ). cond b (1 - round) (get_or vs row 0)) m.rounds_are in
                down.round_is row r
                ∙ ap (λ (x : Bool). cond x (1 - (1 - round)) (get_or rounds₃ row 0)) same
                ∙ ap (cond b (1 - (1 - round))) moved
                ∙ by b refl
              where
                by : (b : Bool) → names_row codes₁ from count row ≡ b → cond b (1 - (1 - round)) (cond b (1 - round) (get_or rounds row 0)) ≡ get_or rounds row 0
                by false e = refl
                by true e =
                    let w = names_some codes₁ from count row e in
                    let q : get_or rounds₁ row 0 ≡ round = subst (λ (k : ℕ). get_or rounds₁ k 0 ≡ round) w.3 (at₁.at_round w.0 w.1 w.2) in
                    let p : get_or rounds₁ row 0 ≡ get_or rounds row 0 = ap (λ (vs : List ℕ). get_or vs row 0) m.rounds_are in
                    omega (arith, at.is_round, p, q)

-- the same at the low places as the low half put them back
module _ {surfaces : Surfaces} {axes : ℕ} {table lengths low side : List ℕ} {left : ℕ} {codes : List ℕ} {from count : ℕ}
    (job : BlockJob surfaces axes table lengths low side left codes from count left) (some : 1 ≤ left) where
  abbrev along : ℕ
  along = get_or table (left - 1) 0

  abbrev far : ℕ
  far = get_or side along 0 / 2

  pub high_values : {values : List ℤ} {rounds : List ℕ} {round : ℕ} → ValuesAt surfaces.rows low codes from count values rounds round →
      {low₁ side₁ codes₁ : List ℕ} → PutBack (from + count) low (set side along far) codes low₁ side₁ codes₁ →
      {values₁ : List ℤ} {rounds₁ : List ℕ} → Unmoved values rounds values₁ rounds₁ → {values₂ : List ℤ} {rounds₂ : List ℕ} →
      Moved true surfaces.rows along far codes₁ from count round values₁ rounds₁ values₂ rounds₂ →
      ValuesAt surfaces.rows (set low₁ along (get_or low along 0 + far)) codes₁ from count values₂ rounds₂ (1 - round)
  high_values {round = round} at {codes₁ = codes₁} p m {values₂} {rounds₂} up =
      subst (λ (l : List ℕ). ValuesAt surfaces.rows (set l along (get_or low along 0 + far)) codes₁ from count values₂ rounds₂ (1 - round)) (sym p.lows)
      (raised job some at p.below m up)

-- ---- at the low end of the universe
low_end : (h : Halfspace) → low_value h (replicate most_axes 0) ≡ h.offset
unfolding total
low_end h = from h.offset (h.coefficient 0) (h.coefficient 1) (h.coefficient 2) (h.coefficient 3)
  where
    from : (o a b c d : ℤ) → o +ℤ (pos 0 +ℤ a *ℤ pos 0 +ℤ b *ℤ pos 0 +ℤ c *ℤ pos 0 +ℤ d *ℤ pos 0) ≡ o
    from o a b c d = eq_by (ι o ⊕ (ν 0 ⊕ ι a ⊗ ν 0 ⊕ ι b ⊗ ν 0 ⊕ ι c ⊗ ν 0 ⊕ ι d ⊗ ν 0)) (ι o) (omega arith)

pub begun_values : {rows : List ℤ} {codes : List ℕ} {count : ℕ} {values : List ℤ} → Begun rows codes count values →
    ValuesAt rows (replicate most_axes 0) codes 0 count values (replicate most_rows 0) 0
begun_values {rows} {codes} {count} {values} begun =
    record {
      right = record { at_code = λ k l. subst (ValueOf rows (replicate most_axes 0) values) (ap (λ (j : ℕ). get_or codes j 0) (front k)) (right k l) };
      values_long = begun.long;
      rounds_long = length-replicate {A = ℕ} most_rows 0;
      is_round = omega arith;
      at_round = λ k l e. get_or-replicate {A = ℕ} most_rows (row_of (get_or codes (0 + k) 0)) 0 0 (omega (arith, upto_ball (get_or codes (0 + k) 0) e));
    }
  where
    front : (k : ℕ) → k ≡ 0 + k
    front k = omega arith

    right : (k : ℕ) → k < count → ValueOf rows (replicate most_axes 0) values (get_or codes k 0)
    right k l =
        record {
          row = λ e. record {
            long = begun.long;
            few = omega (arith, upto_ball (get_or codes k 0) e);
            value_is = begun.value_is k l e ∙ sym (low_end (row_at rows (row_of (get_or codes k 0))));
          };
        }
