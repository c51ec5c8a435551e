-- Bytes stored from a place on: one run behind another is one run, and a run from the first place on is the front of the array.
use Prim.Native.Nat.{ℕ, ◌+◌, ◌/◌, ◌%◌, ◌^◌, ◌≤◌, ◌<◌}
use native.Mathlib.Omega.{arith}
use mathlib.Core.Path.{◌≡◌, sym, ◌∙◌}
use mathlib.Core.List.{List, [], ◌∷◌, ◌++◌}
use lib.ListN.{length, take, drop, length-append}
use lib.Seq.{sets}
use borrow.Rule.Slice.PartMut.{put_mid}
use Rattle.std.proofs.Common.{◌-◌, refl, le_refl}
use Rattle.std.proofs.lemmas.List.{append_assoc, drop-drop}
use Rattle.std.proofs.lemmas.List.Edits.{sets-eq}
use Rattle.lemmas.proofs.Stores.{sets_append, sets_first}
use Rattle.lines.specs.Decimal.{digit, decimal}
use Rattle.lines.specs.Appended.{most_digits, most_bytes, Appended}
use Rattle.lines.proofs.Decimal.{decimal_units, decimal_tens, decimal_few, units_few, tens_few}

module _ {most : ℕ} {before : List ℕ} {at : ℕ} {bytes after : List ℕ} {next : ℕ} (a : Appended most before at bytes after next) where
  pub appended_within : {more : ℕ} → most ≤ more → Appended more before at bytes after next
  appended_within h = record { long = a.long; few = omega (arith, a.few); same = a.same; end = a.end }

  -- another run behind it
  pub appended_then : {more : ℕ} {others later : List ℕ} {last : ℕ} → Appended more after next others later last
      → Appended (most + more) before at (bytes ++ others) later last
  appended_then {others = others} b =
      record {
        long = a.long;
        few = simp length-append (omega (arith, a.few, b.few));
        same = b.same ∙ rw (a.same, a.end) (sets_append bytes others before at);
        end = simp length-append (omega (arith, a.end, b.end));
      }

-- what was copied into the array stands there
pub copied : (text out : List ℕ) (at : ℕ) {now : List ℕ} → length out ≡ most_bytes → at + length text ≤ most_bytes → now ≡ text
    → Appended (length text) out at text (put_mid at (at + length text - at) out now) (at + length text)
copied text out at l h e =
    let k : at + length text - at ≡ length text = omega arith in
    let same : put_mid at (at + length text - at) out text ≡ sets out at text =
    rw (k, drop-drop, sets-eq text out at (omega (arith, l))) (sym (append_assoc (take at out) text (drop (at + length text) out))) in
    record { long = l; few = le_refl (length text); same = rw e same; end = refl }

-- the same bytes by another name
pub appended_as : {bytes others : List ℕ} → bytes ≡ others → {most : ℕ} {before : List ℕ} {at : ℕ} {after : List ℕ} {next : ℕ}
    → Appended most before at bytes after next
    → Appended most before at others after next
appended_as e a = rw e at a

-- what was stored from the first place on is the front of the array, and the rest of it is as it was
pub appended_front : {before bytes after : List ℕ} {next : ℕ} → Appended most_bytes before 0 bytes after next
    → (next ≡ length bytes) × (after ≡ bytes ++ drop (length bytes) before)
appended_front {before} {bytes} a = (omega (arith, a.end), a.same ∙ sets_first bytes before (omega (arith, a.few, a.long)))

-- ---- a number
module _ (n : ℕ) {before : List ℕ} {at : ℕ} where
  pub spelled_units : {after : List ℕ} {next : ℕ} → n < 10
      → Appended 1 before at (digit n ∷ []) after next
      → Appended (length (decimal n)) before at (decimal n) after next
  spelled_units h a = rw (decimal_units n h) a

  pub spelled_tens : {between after : List ℕ} {last next : ℕ} → 10 ≤ n
      → Appended (length (decimal (n / 10))) before at (decimal (n / 10)) between last
      → Appended 1 between last (digit (n % 10) ∷ []) after next
      → Appended (length (decimal n)) before at (decimal n) after next
  spelled_tens h a b = rw (decimal_tens n h, length-append) (appended_then a b)

pub ruleset number_laws = (units_few, tens_few)

-- ---- a word and a number
pub labelled : {n : ℕ} {before between after word : List ℕ} {at next last : ℕ} → n < 2 ^ 64
    → Appended (length word) before at word between next
    → Appended (length (decimal n)) between next (decimal n) after last
    → Appended (length word + most_digits) before at (word ++ decimal n) after last
labelled {n} h a b = appended_within (appended_then a b) (omega (arith, decimal_few n h))

-- ---- a line of three words with their numbers, and its end
module _ {before : List ℕ} {at : ℕ} {a b c d : List ℕ} {ka kb kc kd : ℕ} where
  pub three_labelled : {one two three after : List ℕ} {i j k next : ℕ}
      → Appended ka before at a one i
      → Appended kb one i b two j
      → Appended kc two j c three k
      → Appended kd three k d after next
      → Appended (ka + kb + kc + kd) before at (a ++ b ++ c ++ d) after next
  three_labelled p q r s = appended_then (appended_then (appended_then p q) r) s
