-- The loop of `watch` in src/window.rt. The walk over a halved block is the walk over its low half and then, from where that ends, the one over its
-- high half; so a walk over one tree and then over the high halves still to come tells, at each turn of the loop, what the whole walk tells.
use mathlib.Core.Logic.{◌⊎◌}
use mathlib.Core.Path.{◌≡◌, refl, sym, ap, ◌∙◌}
use mathlib.Core.List.{List, [], ◌∷◌}
use Prim.Native.Nat.{ℕ, suc, ◌+◌, ◌-◌, ◌*◌, ◌^◌, ◌≤◌, ◌<◌}
use native.Mathlib.Omega.{arith}
use lib.Count.{count_trailing_zeros}
use lib.ListN.{length, get_or, set, length-set}
use lib.Seq.{get_or-set_same, get_or-set_other}
use lib.Pow.{pow_mono}
use Rattle.std.specs.Prelude.{Option, Some, None}
use Rattle.universe.specs.declared.Universe.{Universe}
use Rattle.universe.specs.Questions.{voxels_left}
use Rattle.universe.specs.Universe.{levels, most_levels, longest_side, frame_count}
use Rattle.universe.proofs.Questions.{voxels_are}
use Rattle.universe.proofs.Universes.{accepted, levels_few}
use Rattle.bintree.specs.declared.Colour.TheVariants.{White, Black}
use Rattle.bintree.specs.declared.Contact.{Contact}
use Rattle.bintree.specs.declared.window.Window.{Window}
use Rattle.bintree.specs.declared.window.Watched.{Watched}
use Rattle.bintree.specs.Shape.{Shape, leaf, halved, open_symbol, symbol_of, size}
use Rattle.bintree.specs.Reading.{Reading, none, read, read_at}
use Rattle.bintree.specs.Counts.{volume_from}
use Rattle.bintree.specs.Windows.{no_contact, touched, contact_from, frame_bits, FrameTable, LaterTable, watched}
use Rattle.bintree.proofs.Reading.{white_else, leaf_at, other_at, end_at, deep_at, low_missing, high_missing, both_read}
use Rattle.bintree.proofs.Owed.{mask, Rising, end, next, rising_under, rising_lower, mask_none, mask_more, mask_zero, Due, due}
use Rattle.bintree.proofs.Frames.{bits_first}
use Rattle.bintree.proofs.Watches.{high_frame, Carried, carried_left, black_volume, black_touches, black_most, touch_frames, touch_voxels}
use Rattle.bintree.proofs.Watches.{low_carried, high_inside, halves_volume, halves_contact, both_after}
use Rattle.bintree.proofs.Watches.{seen, seen_none, seen_read, seen_whole}

-- a walk and, from where it ends, what comes next
unfoldable pub onward : Option Watched → (ℕ → ℕ → Contact → Option Watched) → Option Watched
onward None more = None
onward (Some t) more = more t.end t.volume t.contact

abbrev pub until : ℕ → ℕ → Contact → Option Watched
until p n k = Some (record { end = p; volume = n; contact = k })

onward_end : (x : Option Watched) → onward x (λ p n k. until p n k) ≡ x
unfolding onward
onward_end None = refl
onward_end (Some t) = refl

onward_same : (x : Option Watched) (f g : ℕ → ℕ → Contact → Option Watched) → ((p n : ℕ) (k : Contact) → f p n k ≡ g p n k) → onward x f ≡ onward x g
unfolding onward
onward_same None f g h = refl
onward_same (Some t) f g h = h t.end t.volume t.contact

onward_twice : (x : Option Watched) (f g : ℕ → ℕ → Contact → Option Watched) → onward (onward x f) g ≡ onward x (λ p n k. onward (f p n k) g)
unfolding onward
onward_twice None f g = refl
onward_twice (Some t) f g = refl

module _ (v : Window) (s : List ℕ) where
  -- the walk over the tree of at most `left` levels at p, where n voxels and the contact k were found before
  abbrev pub one : ℕ → ℕ → ℕ → ℕ → Contact → Option Watched
  one p left frame n k = seen v p left frame n k (read_at s left p)

  -- the walks over the high halves still to come, by the levels left to them: the first frame of each stands in `starts` at its levels
  unfoldable pub over : List ℕ → List ℕ → ℕ → ℕ → Contact → Option Watched
  over starts [] p n k = until p n k
  over starts (l ∷ ls) p n k = onward (one p l (get_or starts l 0) n k) (λ q m j. over starts ls q m j)

  -- a store below their levels changes nothing
  over_still :
      (starts : List ℕ) (i x : ℕ) {b : ℕ} {ls : List ℕ} → i < b → Rising b ls → (p n : ℕ) (k : Contact) → over (set starts i x) ls p n k ≡ over starts ls p n k
  unfolding over
  over_still starts i x h end p n k = refl
  over_still starts i x h (next {l = l} {ls = ls} g r) p n k =
      rw (get_or-set_other starts i l x 0 (λ e. omega arith))
      (onward_same (one p l (get_or starts l 0) n k) (λ q m j. over (set starts i x) ls q m j) (λ q m j. over starts ls q m j)
      (λ q m j. over_still starts i x (omega arith) r q m j))

  -- a halved block: its low half, then its high half
  module _
      (p left frame voxels n : ℕ) (k : Contact) (w : Carried v.accepted.universe left frame voxels) (e : get_or s p 0 ≡ open_symbol) (deep : left ≡ 0 → ⊥)
    where
      u : Universe
      u = v.accepted.universe

      high_frame_lem : ℕ
      high_frame_lem = high_frame frame (frame_bits v.accepted.universe left) (frame_bits v.accepted.universe (left - 1))

      one_halves : one p left frame n k ≡ onward (one (p + 1) (left - 1) frame n k) (λ q m j. one q (left - 1) high_frame_lem m j)
      unfolding onward seen u high_frame_lem
      one_halves = low (read_at s (left - 1) (p + 1)) refl
        where
          voxels_of : Shape → ℕ
          voxels_of = volume_from u (levels u - (left - 1))

          contact : ℕ → Shape → Contact → Contact
          contact = contact_from u v.first v.last (levels u - (left - 1))

          high :
              (a : Shape) → read_at s (left - 1) (p + 1) ≡ read a → (y : Reading) → read_at s (left - 1) (p + 1 + size a) ≡ y →
              one p left frame n k ≡ seen v (p + 1 + size a) (left - 1) high_frame_lem (n + voxels_of a) (contact frame a k) y
          high a f none g = sym (seen_none v p left frame n k (high_missing s left p e deep a f g))
          high a f (read b) g =
              sym (seen_read v p left frame n k (p + 1 + size a + size b) (n + voxels_of a + voxels_of b) (contact high_frame_lem b (contact frame a k))
              (halved a b) (both_read s left p e deep a b f g) (both_after p (p + 1 + size a) (p + 1 + size a + size b) a b refl refl)
              (omega (arith, halves_volume u left frame voxels w deep a b))
              (halves_contact u left frame voxels w deep v.first v.last a b k (contact frame a k) _ refl refl))

          low :
              (x : Reading) → read_at s (left - 1) (p + 1) ≡ x →
              one p left frame n k ≡ onward (seen v (p + 1) (left - 1) frame n k x) (λ q m j. one q (left - 1) high_frame_lem m j)
          low none f = sym (seen_none v p left frame n k (low_missing s left p e deep f))
          low (read a) f = high a f (read_at s (left - 1) (p + 1 + size a)) refl

-- what the array holds of a high half still to come with l levels left
pub record Held (u : Universe) (starts : List ℕ) (l : ℕ) : Type 0 where
  pub under : l < levels u
  pub inside : get_or starts l 0 + 2 ^ frame_bits u l ≤ frame_count u

pub data AllHeld (u : Universe) (starts : List ℕ) : List ℕ → Type 0 where
  empty : AllHeld u starts []
  also : {l : ℕ} {ls : List ℕ} → Held u starts l → AllHeld u starts ls → AllHeld u starts (l ∷ ls)

held_first : {u : Universe} {starts : List ℕ} {l : ℕ} {ls : List ℕ} → AllHeld u starts (l ∷ ls) → Held u starts l
held_first (also a b) = a

held_rest : {u : Universe} {starts : List ℕ} {l : ℕ} {ls : List ℕ} → AllHeld u starts (l ∷ ls) → AllHeld u starts ls
held_rest (also a b) = b

held_still : (u : Universe) (starts : List ℕ) (i x : ℕ) {n : ℕ} {ls : List ℕ} → i < n → Rising n ls → AllHeld u starts ls → AllHeld u (set starts i x) ls
held_still u starts i x h end empty = empty
held_still u starts i x h (next {l = l} g r) (also a b) =
    let e = get_or-set_other starts i l x 0 (λ z. omega arith) in
    also (record { under = a.under; inside = rw e a.inside }) (held_still u starts i x (omega arith) r b)

-- the loop's invariant: from place p on, the tree at hand and then the high halves still to come tell what the whole walk tells; no level that is owed is below
-- the levels left, all that is owed still fits into the volume, and the contact counts no more than the volume does
pub record Watching (v : Window) (s : List ℕ) (whole : Option Watched) (table later starts : List ℕ) (p left frame owed n : ℕ) (k : Contact) : Type 0 where
  pub waiting : List ℕ
  pub owes : owed ≡ mask waiting
  pub rising : Rising left waiting
  pub held : AllHeld v.accepted.universe starts waiting
  pub tabled : FrameTable v.accepted.universe table
  pub stepped : LaterTable v.accepted.universe later
  pub room : length starts ≡ most_levels
  pub carried : Carried v.accepted.universe left frame (n + owed)
  pub within : k.voxels ≤ n
  pub tells : onward (one v s p left frame n k) (λ q m j. over v s starts waiting q m j) ≡ whole

-- it begins with the whole universe, at the first symbol
pub watching_start :
    (v : Window) (s table later starts : List ℕ) (count : ℕ) (k : Contact) → FrameTable v.accepted.universe table →
    LaterTable v.accepted.universe later → length starts ≡ most_levels → count ≡ levels v.accepted.universe → k ≡ no_contact v.first v.last →
    Watching v s (watched v (read_at s (levels v.accepted.universe) 0)) table later starts 0 count 0 0 0 k
unfolding over
watching_start v s table later starts count k t l a all e =
    rw (all, e) (record {
      waiting = [];
      owes = sym mask_none;
      rising = end;
      held = empty;
      tabled = t;
      stepped = l;
      room = a;
      carried = record {
        accepts = v.accepted.not_refused;
        few = omega arith;
        inside = rw (bits_first v.accepted.universe v.accepted.not_refused) (omega arith);
        most = omega arith;
      };
      within = omega arith;
      tells = onward_end (one v s 0 (levels v.accepted.universe) 0 0 (no_contact v.first v.last)) ∙ seen_whole v (read_at s (levels v.accepted.universe) 0);
    })

module _
    {v : Window} {s : List ℕ} {whole : Option Watched} {table later starts : List ℕ} {p left frame owed n : ℕ} {k : Contact}
    (w : Watching v s whole table later starts p left frame owed n k) where
  most_levels_lem : levels v.accepted.universe ≤ most_levels
  most_levels_lem = levels_few v.accepted.universe (accepted v.accepted.universe w.carried.accepts)

  most_voxels : n + owed + 2 ^ left ≤ 2 ^ most_levels
  most_voxels = omega (arith, w.carried.most, pow_mono most_levels_lem)

  -- the bits of the frames
  pub left_fits : left < suc most_levels
  left_fits = omega (arith, w.carried.few, most_levels_lem)

  pub left_room : left * 8 < 2 ^ 64
  left_room = omega (arith, w.carried.few, most_levels_lem)

  wide_is : get_or table left 0 ≡ frame_bits v.accepted.universe left
  wide_is = w.tabled.holds left w.carried.few

  frames_fit : frame + 2 ^ frame_bits v.accepted.universe left ≤ longest_side
  frames_fit = touch_frames v.accepted.universe left frame (n + owed) w.carried

  pub watching_frames : frame + 2 ^ get_or table left 0 ≤ longest_side
  watching_frames = rw wide_is frames_fit

  -- there is no tree
  nothing : read_at s left p ≡ none → None ≡ whole
  unfolding onward
  nothing e = ap (λ x. onward x (λ q m j. over v s starts w.waiting q m j)) (seen_none v p left frame n k e) ∙ w.tells

  pub watching_end : length s ≤ p → None ≡ whole
  watching_end h = nothing (end_at s left p h)

  pub watching_deep : get_or s p 0 ≡ open_symbol → left ≡ 0 → None ≡ whole
  watching_deep e h = nothing (ap (λ m. read_at s m p) h ∙ deep_at s p e)

  pub watching_other : (get_or s p 0 ≡ open_symbol → ⊥) → (get_or s p 0 ≡ symbol_of Black → ⊥) → (get_or s p 0 ≡ symbol_of White → ⊥) → None ≡ whole
  watching_other a b c = nothing (other_at s left p a b c)

  -- `(`: what the calls ask, and the low half
  module _ (deep : left ≡ 0 → ⊥) where
    pub level_fits : left - 1 < most_levels
    level_fits = omega (arith, w.carried.few, most_levels_lem)

    pub level_few : left - 1 ≤ most_levels
    level_few = omega (arith, level_fits)

    pub level_room : (left - 1) * 8 < 2 ^ 64
    level_room = omega (arith, level_fits)

    later_is : get_or later (left - 1) 0 ≡ 2 ^ frame_bits v.accepted.universe left - 2 ^ frame_bits v.accepted.universe (left - 1)
    later_is = let d : suc (left - 1) ≡ left = omega arith in rw d at (w.stepped.holds (left - 1) (omega (arith, w.carried.few)))

    pub later_fits : frame + get_or later (left - 1) 0 < 2 ^ 64
    later_fits = omega (arith, later_is, frames_fit)

    high : ℕ
    high = frame + get_or later (left - 1) 0

    before : left - 1 < left
    before = omega arith

    module _ (bit : ℕ) (b : bit ≡ voxels_left (left - 1)) where
      bit_is : bit ≡ 2 ^ (left - 1)
      bit_is = b ∙ voxels_are (left - 1) level_few

      pub owed_fits : owed + bit < 2 ^ 64
      owed_fits = omega (arith, bit_is, pow_mono {i = left - 1} {j = left} (omega arith), most_voxels)

      module _ (e : get_or s p 0 ≡ open_symbol) where
        stored :
            get_or (set starts (left - 1) high) (left - 1) 0
            ≡ high_frame frame (frame_bits v.accepted.universe left) (frame_bits v.accepted.universe (left - 1))
        unfolding high
        stored = get_or-set_same starts (left - 1) high 0 (omega (arith, level_fits, w.room)) ∙ ap (λ x. frame + x) later_is

        tells_halves : onward (one v s (p + 1) (left - 1) frame n k) (λ q m j. over v s (set starts (left - 1) high) ((left - 1) ∷ w.waiting) q m j) ≡ whole
        unfolding over high_frame_lem
        tells_halves =
            let h = high_frame_lem v s p left frame (n + owed) n k w.carried e deep in
            onward_same (one v s (p + 1) (left - 1) frame n k) _ _
            (λ q m j. rw stored (onward_same (one v s q (left - 1) h m j) _ _ (λ x y z. over_still v s starts (left - 1) high before w.rising x y z)))
            ∙ sym (onward_twice (one v s (p + 1) (left - 1) frame n k) (λ q m j. one v s q (left - 1) h m j) (λ q m j. over v s starts w.waiting q m j))
            ∙ ap (λ x. onward x (λ q m j. over v s starts w.waiting q m j)) (sym (one_halves v s p left frame (n + owed) n k w.carried e deep))
            ∙ w.tells

        pub watching_open : Watching v s whole table later (set starts (left - 1) (frame + get_or later (left - 1) 0)) (p + 1) (left - 1) frame (owed + bit) n k
        unfolding high
        watching_open =
            record {
              waiting = (left - 1) ∷ w.waiting;
              owes = omega (arith, bit_is, w.owes, mask_more (left - 1) w.waiting);
              rising = rising_lower deep w.rising;
              held =
                  also {l = left - 1} (record {
                    under = omega (arith, w.carried.few);
                    inside = rw stored (high_inside v.accepted.universe left frame (n + owed) w.carried deep);
                  })
                  (held_still v.accepted.universe starts (left - 1) high before w.rising w.held);
              tabled = w.tabled;
              stepped = w.stepped;
              room = length-set starts (left - 1) high ∙ w.room;
              carried = low_carried v.accepted.universe left frame (n + owed) w.carried deep (n + (owed + bit)) (omega (arith, bit_is));
              within = w.within;
              tells = tells_halves;
            }

  -- `B`: what the calls ask
  pub left_few : left ≤ most_levels
  left_few = omega (arith, w.carried.few, most_levels_lem)

  pub volume_fits : (bit : ℕ) → bit ≡ voxels_left left → n + bit < 2 ^ 64
  volume_fits bit b = omega (arith, most_voxels, voxels_are left left_few)

  pub watching_voxels : k.voxels + 2 ^ (get_or table left 0 + (left - get_or table left 0)) ≤ 2 ^ most_levels
  watching_voxels = rw wide_is (omega (arith, w.within, touch_voxels v.accepted.universe left frame (n + owed) w.carried))

  pub watching_bits : get_or table left 0 ≤ left
  watching_bits = rw wide_is (carried_left v.accepted.universe left frame (n + owed) w.carried)

  -- a leaf, added to the volume and joined to the contact
  pub record Leafed (m : ℕ) (j : Contact) : Type 0 where
    pub told : until (p + 1) m j ≡ one v s p left frame n k
    pub most : m ≤ n + 2 ^ left
    pub within : j.voxels ≤ m

  module _ (m : ℕ) (j : Contact) where
    pub leafed_white :
        (get_or s p 0 ≡ symbol_of Black) ⊎ (get_or s p 0 ≡ symbol_of White) → (get_or s p 0 ≡ symbol_of Black → ⊥) → m ≡ n → j ≡ k →
        Leafed m j
    unfolding size volume_from contact_from
    leafed_white e h f g =
        rw g (record {
          told = seen_read v p left frame n k (p + 1) m k (leaf White) (leaf_at s left p White (white_else e h)) refl (omega arith) refl;
          most = omega arith;
          within = omega (arith, w.within);
        })

    pub leafed_black :
        (bit : ℕ) → bit ≡ voxels_left left → get_or s p 0 ≡ symbol_of Black → m ≡ n + bit →
        j ≡ touched k v.first v.last frame (2 ^ get_or table left 0) (2 ^ (left - get_or table left 0)) → Leafed m j
    unfolding size
    leafed_black bit b e f g =
        let c = w.carried in
        let all = b ∙ voxels_are left left_few in
        let h = rw wide_is at g in
        record {
          told =
              seen_read v p left frame n k (p + 1) m j (leaf Black) (leaf_at s left p Black e) refl
              (f ∙ ap (λ x. n + x) (all ∙ black_volume v.accepted.universe left frame (n + owed) c))
              (black_touches v.accepted.universe left frame (n + owed) c v.first v.last k j h);
          most = omega arith;
          within = rw h (omega (arith, w.within, black_most v.accepted.universe left frame (n + owed) c v.first v.last k));
        }

    tells_next : Leafed m j → over v s starts w.waiting (p + 1) m j ≡ whole
    unfolding onward
    tells_next x = ap (λ y. onward y (λ q l i. over v s starts w.waiting q l i)) x.told ∙ w.tells

    -- the last one
    pub watching_last : Leafed m j → owed ≡ 0 → until (p + 1) m j ≡ whole
    unfolding over
    watching_last x z = let none-waits = mask_zero w.waiting (sym w.owes ∙ z) in rw none-waits at (tells_next x)

  -- the high half that is due next
  module _ (some : owed ≡ 0 → ⊥) where
    following : Due owed w.waiting
    following = due owed w.waiting w.owes w.rising (omega (arith, most_voxels)) some

    its_held : AllHeld v.accepted.universe starts (following.first ∷ following.rest)
    its_held = rw following.are at w.held

    module _ (l : ℕ) (e : l ≡ count_trailing_zeros 64 owed) where
      is_first : l ≡ following.first
      is_first = e ∙ following.zeros

      pub due_fits : l < most_levels
      due_fits = omega (arith, is_first, (held_first its_held).under, most_levels_lem)

      pub due_few : l ≤ most_levels
      due_few = omega (arith, due_fits)

      module _ (bit : ℕ) (b : bit ≡ voxels_left l) where
        owes_bit : owed ≡ bit + mask following.rest
        owes_bit = omega (arith, following.owes, ap (λ m. 2 ^ m) is_first, voxels_are l due_few)

        pub due_owed : bit ≤ owed
        due_owed = omega (arith, owes_bit)

        pub watching_next : (m : ℕ) (j : Contact) → Leafed m j → Watching v s whole table later starts (p + 1) l (get_or starts l 0) (owed - bit) m j
        unfolding over
        watching_next m j x =
            let h = held_first its_held in
            let c = w.carried in
            let f = is_first in
            record {
              waiting = following.rest;
              owes = omega (arith, owes_bit);
              rising = rw f (rising_under (omega arith) following.rising);
              held = held_rest its_held;
              tabled = w.tabled;
              stepped = w.stepped;
              room = w.room;
              carried =
                  record {
                    accepts = c.accepts;
                    few = omega (arith, h.under);
                    inside = rw f h.inside;
                    most = omega (arith, c.most, x.most, owes_bit, following.owes, ap (λ m. 2 ^ m) f);
                  };
              within = x.within;
              tells = rw f (rw following.are at (tells_next m j x));
            }
