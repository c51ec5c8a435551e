-- What a result tells loses nothing: two results that tell the same are equal. An answer tells 0 exactly where it is `Ok`, so two that tell the same are
-- both `Ok` or both `Err`; the values of the one, and the number and the room of the other, are read off again.
use mathlib.Core.Path.{◌≡◌, refl, sym, ◌∙◌, ap}
use Prim.Native.Nat.{ℕ}
use Rattle.std.specs.Prelude.{Option, Result, Ok, Err}
use Rattle.universe.specs.declared.refusal.Refusal.{Refusal}
use Rattle.universe.specs.declared.refusal.Unwritten.{Unwritten}
use Rattle.universe.specs.Told.{RoomAnswer, number_of, number_unwritten, needed_by, room_told}
use Rattle.universe.proofs.Telling.{number-injective, number-not_zero, number-not_room, unwritten-injective, unwritten-not_zero}
use Rattle.bintree.specs.declared.Colour.{Colour}
use Rattle.bintree.specs.declared.Verdict.{Verdict}
use Rattle.bintree.specs.declared.Merged.{Merged}
use Rattle.bintree.specs.declared.Placed.{Placed}
use Rattle.bintree.specs.declared.Numbers.{Numbers}
use Rattle.bintree.specs.Told.{WrittenAnswer, MergedAnswer, ColouredAnswer, PlacedAnswer, NumbersAnswer}
use Rattle.bintree.specs.Told.{writing_told, merging_told, colour_told, place_told, numbers_told}
use Rattle.convert.specs.declared.verdict.Clearance.{Clearance}
use Rattle.convert.specs.Told.{ClearanceAnswer, clearance_told}
use Rattle.pruned.specs.declared.answer.Conversion.{Conversion}
use Rattle.pruned.specs.declared.answer.Unconverted.{Unconverted}
use Rattle.pruned.specs.declared.answer.Unconverted.TheVariants.{Refused, ShortOfWork, ShortOfSymbols}
use Rattle.pruned.specs.Told.{ConversionAnswer, conversion_told, number_unconverted, needed_to_convert, lacks_work}
use Rattle.at_once.specs.declared.answer.Ends.{Ends}
use Rattle.at_once.specs.declared.answer.Contacts.{Contacts}
use Rattle.at_once.specs.Told.{JudgedAnswer, SpannedAnswer, ContactsAnswer, judged_told, spanned_told, contacts_told}
use Rattle.report.specs.declared.Report.{Report}
use Rattle.report.specs.Told.{ReportAnswer, report_told}
use Rattle.sweep.specs.declared.Swept.{Swept}
use Rattle.sweep.specs.Told.{SweptAnswer, swept_told}
use Rattle.files.specs.declared.Scene.{Scene}
use Rattle.files.specs.declared.ShapeRead.{ShapeRead}
use Rattle.files.specs.Told.{SceneAnswer, ShapeAnswer, scene_told, shape_told}
use Rattle.universe.specs.declared.refusal.Unwritten.TheVariants as unwritten

module _ {A E B : Type 0} (told : Result A E → B) (number : B → ℕ) (accepted : (a : A) → number (told (Ok a)) ≡ 0)
    (refused : (e : E) → number (told (Err e)) ≡ 0 → ⊥) (values : (a b : A) → told (Ok a) ≡ told (Ok b) → a ≡ b)
    (errors : (e f : E) → told (Err e) ≡ told (Err f) → e ≡ f) where
  read : (r s : Result A E) → told r ≡ told s → r ≡ s
  read (Ok a) (Ok b) h = ap Ok (values a b h)
  read (Ok a) (Err f) h = absurd (refused f (sym (ap number h) ∙ accepted a))
  read (Err e) (Ok b) h = absurd (refused e (ap number h ∙ accepted b))
  read (Err e) (Err f) h = ap Err (errors e f h)

pub room-read : (r s : Result ℕ Refusal) → room_told r ≡ room_told s → r ≡ s
room-read =
    read room_told (λ a. a.refusal) (λ a. refl) number-not_zero (λ a b h. ap (λ (t : RoomAnswer). t.symbols) h)
    (λ e f h. number-injective e f (ap (λ (t : RoomAnswer). t.refusal) h))

pub writing-read : (r s : Result ℕ Unwritten) → writing_told r ≡ writing_told s → r ≡ s
writing-read =
    read writing_told (λ a. a.refusal) (λ a. refl) unwritten-not_zero (λ a b h. ap (λ (t : WrittenAnswer). t.length) h)
    (λ e f h. unwritten-injective e f (ap (λ (t : WrittenAnswer). t.refusal) h) (ap (λ (t : WrittenAnswer). t.length) h))

pub merging-read : (r s : Result Merged Unwritten) → merging_told r ≡ merging_told s → r ≡ s
merging-read =
    read merging_told (λ a. a.refusal) (λ a. refl) unwritten-not_zero (λ a b h i. record { length = (h i).length; held = (h i).held })
    (λ e f h. unwritten-injective e f (ap (λ (t : MergedAnswer). t.refusal) h) (ap (λ (t : MergedAnswer). t.length) h))

pub colour-read : (r s : Result Colour Refusal) → colour_told r ≡ colour_told s → r ≡ s
colour-read =
    read colour_told (λ a. a.refusal) (λ a. refl) number-not_zero (λ a b h. ap (λ (t : ColouredAnswer). t.colour) h)
    (λ e f h. number-injective e f (ap (λ (t : ColouredAnswer). t.refusal) h))

pub place-read : (r s : Result Placed Refusal) → place_told r ≡ place_told s → r ≡ s
place-read =
    read place_told (λ a. a.refusal) (λ a. refl) number-not_zero (λ a b h i. record { start = (h i).start; length = (h i).length })
    (λ e f h. number-injective e f (ap (λ (t : PlacedAnswer). t.refusal) h))

pub numbers-read : (r s : Result Numbers Refusal) → numbers_told r ≡ numbers_told s → r ≡ s
numbers-read =
    read numbers_told (λ a. a.refusal) (λ a. refl) number-not_zero (λ a b h i. record { volume = (h i).volume; verdict = (h i).verdict })
    (λ e f h. number-injective e f (ap (λ (t : NumbersAnswer). t.refusal) h))

pub clearance-read : (r s : Result Clearance Unwritten) → clearance_told r ≡ clearance_told s → r ≡ s
clearance-read =
    read clearance_told (λ a. a.refusal) (λ a. refl) unwritten-not_zero (λ a b h i. record { verdict = (h i).verdict; length = (h i).length })
    (λ e f h. unwritten-injective e f (ap (λ (t : ClearanceAnswer). t.refusal) h) (ap (λ (t : ClearanceAnswer). t.length) h))

pub judged-read : (r s : Result Verdict Refusal) → judged_told r ≡ judged_told s → r ≡ s
judged-read =
    read judged_told (λ a. a.refusal) (λ a. refl) number-not_zero (λ a b h. ap (λ (t : JudgedAnswer). t.verdict) h)
    (λ e f h. number-injective e f (ap (λ (t : JudgedAnswer). t.refusal) h))

pub spanned-read : (r s : Result (Option Ends) Refusal) → spanned_told r ≡ spanned_told s → r ≡ s
spanned-read =
    read spanned_told (λ a. a.refusal) (λ a. refl) number-not_zero (λ a b h. ap (λ (t : SpannedAnswer). t.span) h)
    (λ e f h. number-injective e f (ap (λ (t : SpannedAnswer). t.refusal) h))

pub contacts-read : (r s : Result Contacts Refusal) → contacts_told r ≡ contacts_told s → r ≡ s
contacts-read =
    read contacts_told (λ a. a.refusal) (λ a. refl) number-not_zero
    (λ a b h i. record { sure = (h i).sure; centre = (h i).centre; possible = (h i).possible })
    (λ e f h. number-injective e f (ap (λ (t : ContactsAnswer). t.refusal) h))

pub report-read : (r s : Result Report Unwritten) → report_told r ≡ report_told s → r ≡ s
report-read =
    read report_told (λ a. a.refusal) (λ a. refl) unwritten-not_zero (λ a b h i. record { frames = (h i).frames; total = (h i).total })
    (λ e f h. unwritten-injective e f (ap (λ (t : ReportAnswer). t.refusal) h) (ap (λ (t : ReportAnswer). t.frames) h))

pub swept-read : (r s : Result Swept Unwritten) → swept_told r ≡ swept_told s → r ≡ s
swept-read =
    read swept_told (λ a. a.refusal) (λ a. refl) unwritten-not_zero (λ a b h i. record { universe = (h i).universe; length = (h i).length })
    (λ e f h. unwritten-injective e f (ap (λ (t : SweptAnswer). t.refusal) h) (ap (λ (t : SweptAnswer). t.length) h))

pub scene-read : (r s : Result Scene Refusal) → scene_told r ≡ scene_told s → r ≡ s
scene-read =
    read scene_told (λ a. a.refusal) (λ a. refl) number-not_zero
    (λ a b h i. record { version = (h i).version; universe = (h i).universe; counts = (h i).counts; window = (h i).window })
    (λ e f h. number-injective e f (ap (λ (t : SceneAnswer). t.refusal) h))

-- a shape's reading goes by what it is refused with
shape-not_zero : (e : Unwritten) → (shape_told (Err e)).refusal ≡ 0 → ⊥
shape-not_zero (unwritten.Refused r) h = number-not_zero r h
shape-not_zero (unwritten.NoRoom n) h = unwritten-not_zero (unwritten.NoRoom n) h

shape-errors : (e f : Unwritten) → shape_told (Err e) ≡ shape_told (Err f) → e ≡ f
shape-errors (unwritten.Refused r) (unwritten.Refused s) h = ap unwritten.Refused (number-injective r s (ap (λ (t : ShapeAnswer). t.refusal) h))
shape-errors (unwritten.Refused r) (unwritten.NoRoom n) h = absurd (number-not_room r (ap (λ (t : ShapeAnswer). t.refusal) h))
shape-errors (unwritten.NoRoom n) (unwritten.Refused r) h = absurd (number-not_room r (sym (ap (λ (t : ShapeAnswer). t.refusal) h)))
shape-errors (unwritten.NoRoom n) (unwritten.NoRoom m) h = ap unwritten.NoRoom (ap (λ (t : ShapeAnswer). t.length) h)

pub shape-read : (r s : Result ShapeRead Unwritten) → shape_told r ≡ shape_told s → r ≡ s
shape-read =
    read shape_told (λ a. a.refusal) (λ a. refl) shape-not_zero
    (λ a b h i. record { universe = (h i).universe; length = (h i).length }) shape-errors

-- a conversion that writes nothing says besides which room is short
unconverted-not_zero : (e : Unconverted) → number_unconverted e ≡ 0 → ⊥
unconverted-not_zero (Refused r) h = number-not_zero r h
unconverted-not_zero (ShortOfWork n) h = unwritten-not_zero (unwritten.NoRoom n) h
unconverted-not_zero (ShortOfSymbols n) h = unwritten-not_zero (unwritten.NoRoom n) h

unconverted-alike : (e f : Unconverted) → number_unconverted e ≡ number_unconverted f → lacks_work e ≡ lacks_work f
    → needed_to_convert e ≡ needed_to_convert f → e ≡ f
unconverted-alike (Refused r) (Refused s) n w k = ap Refused (number-injective r s n)
unconverted-alike (Refused r) (ShortOfWork m) n w k = absurd (number-not_room r n)
unconverted-alike (Refused r) (ShortOfSymbols m) n w k = absurd (number-not_room r n)
unconverted-alike (ShortOfWork m) (Refused s) n w k = absurd (number-not_room s (sym n))
unconverted-alike (ShortOfWork m) (ShortOfWork l) n w k = ap ShortOfWork k
unconverted-alike (ShortOfWork m) (ShortOfSymbols l) n w k = cc
unconverted-alike (ShortOfSymbols m) (Refused s) n w k = absurd (number-not_room s (sym n))
unconverted-alike (ShortOfSymbols m) (ShortOfWork l) n w k = cc
unconverted-alike (ShortOfSymbols m) (ShortOfSymbols l) n w k = ap ShortOfSymbols k

pub conversion-read : (r s : Result Conversion Unconverted) → conversion_told r ≡ conversion_told s → r ≡ s
conversion-read =
    read conversion_told (λ a. a.refusal) (λ a. refl) unconverted-not_zero (λ a b h i. record { length = (h i).length; looked = (h i).looked })
    (λ e f h.
    unconverted-alike e f (ap (λ (t : ConversionAnswer). t.refusal) h) (ap (λ (t : ConversionAnswer). t.short_of_work) h)
    (ap (λ (t : ConversionAnswer). t.length) h))
