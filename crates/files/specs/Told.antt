-- What reading a scene and a shape tells, as the rules say it: a number first, and what the file says behind it, which
-- a refusal leaves at 0. The calls give a `Result`; these read it.
use Rattle.std.specs.Prelude.{ℕ, Result, Ok, Err}
use Rattle.universe.specs.declared.Universe.{Universe}
use Rattle.universe.specs.declared.refusal.Refusal.{Refusal}
use Rattle.universe.specs.declared.refusal.Unwritten.{Unwritten}
use Rattle.universe.specs.declared.refusal.Unwritten.TheVariants.{Refused, NoRoom}
use Rattle.universe.specs.Refusals.{bad_file, no_room}
use Rattle.universe.specs.Told.{number_of}
use Rattle.files.specs.declared.Counts.{Counts}
use Rattle.files.specs.declared.Window.{Window}
use Rattle.files.specs.declared.Scene.{Scene}
use Rattle.files.specs.declared.Places.{Places}
use Rattle.files.specs.declared.SceneHeader.{SceneHeader}
use Rattle.files.specs.declared.ShapeRead.{ShapeRead}
use Rattle.files.specs.declared.ShapeHeader.{ShapeHeader}

-- what reading a scene answers: 0 and what the scene says, or a number and zeros
pub record SceneAnswer : Type 0 where
  pub refusal : ℕ
  pub version : ℕ
  pub universe : Universe
  pub counts : Counts
  pub window : Window

-- rule 8.3: a number, and zeros
abbrev pub refused_scene : ℕ → SceneAnswer
refused_scene number =
    record {
      refusal = number;
      version = 0;
      universe = record { axes = 0; bits = 0; frame_bits = 0 };
      counts = record { rows = 0; balls = 0; first = 0; second = 0 };
      window = record { first = 0; last = 0 };
    }

-- a scene that is not refused
abbrev pub accepted_scene : Scene → SceneAnswer
accepted_scene s =
    record { refusal = 0; version = s.version; universe = s.universe; counts = s.counts; window = s.window }

abbrev pub scene_told : Result Scene Refusal → SceneAnswer
scene_told (Ok s) = accepted_scene s
scene_told (Err r) = refused_scene (number_of r)

-- what the header of a scene file says: the scene, or number 1 and zeros, and the places of what follows it
pub record SceneHeaderAnswer : Type 0 where
  pub scene : SceneAnswer
  pub places : Places

abbrev pub refused_scene_header : ℕ → SceneHeaderAnswer
refused_scene_header number =
    record { scene = refused_scene number; places = record { rows = 0; balls = 0; first = 0; second = 0 } }

abbrev pub accepted_scene_header : SceneHeader → SceneHeaderAnswer
accepted_scene_header h = record { scene = accepted_scene h.scene; places = h.places }

abbrev pub scene_header_told : Result SceneHeader Refusal → SceneHeaderAnswer
scene_header_told (Ok h) = accepted_scene_header h
scene_header_told (Err r) = refused_scene_header (number_of r)

-- rule 8.1, number 1: the file is no scene
abbrev pub no_scene_header : SceneHeaderAnswer
no_scene_header = refused_scene_header bad_file

-- what reading a shape file answers: 0, its universe and the number of its symbols; 6 and the number of its symbols; or
-- another number and zeros
pub record ShapeAnswer : Type 0 where
  pub refusal : ℕ
  pub universe : Universe
  pub length : ℕ

-- rule 8.3: a number and zeros, and with 6 the length that is needed
abbrev pub refused_shape : ℕ → ShapeAnswer
refused_shape number =
    record { refusal = number; universe = record { axes = 0; bits = 0; frame_bits = 0 }; length = 0 }

abbrev pub short_shape : ℕ → ShapeAnswer
short_shape needed =
    record { refusal = no_room; universe = record { axes = 0; bits = 0; frame_bits = 0 }; length = needed }

-- a shape that is not refused
abbrev pub accepted_shape : ShapeRead → ShapeAnswer
accepted_shape s = record { refusal = 0; universe = s.universe; length = s.length }

abbrev pub shape_told : Result ShapeRead Unwritten → ShapeAnswer
shape_told (Ok s) = accepted_shape s
shape_told (Err (Refused r)) = refused_shape (number_of r)
shape_told (Err (NoRoom needed)) = short_shape needed

-- what the header of a shape file says: the shape, or number 1 and zeros, and where its symbols begin
pub record ShapeHeaderAnswer : Type 0 where
  pub shape : ShapeAnswer
  pub place : ℕ

abbrev pub refused_shape_header : ℕ → ShapeHeaderAnswer
refused_shape_header number = record { shape = refused_shape number; place = 0 }

abbrev pub accepted_shape_header : ShapeHeader → ShapeHeaderAnswer
accepted_shape_header h = record { shape = accepted_shape h.shape; place = h.place }

abbrev pub shape_header_told : Result ShapeHeader Refusal → ShapeHeaderAnswer
shape_header_told (Ok h) = accepted_shape_header h
shape_header_told (Err r) = refused_shape_header (number_of r)

-- rule 8.1, number 1: the file is no shape
abbrev pub no_shape_header : ShapeHeaderAnswer
no_shape_header = refused_shape_header bad_file
