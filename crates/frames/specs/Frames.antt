-- Frames by number: "1 HAE of J2000; 2 GEI of J2000; 3 HCI; 4 HEE; 5 HEEQ". Refusal 4: "a frame not 1 to 5".
use Rattle.std.specs.Prelude.{Bool, true, false, List, [], ◌∷◌, ◌-◌, ℤ, pos, nat_abs, get_or, Result, Ok, Err}
use Rattle.refusals.specs.declared.Refusal.{Refusal}
use Rattle.refusals.specs.declared.Refusal.TheVariants.{NoSuchFrame}
use Rattle.frames.specs.declared.Frame.{Frame}
use Rattle.frames.specs.declared.Frame.TheVariants.{Hae, Gei, Hci, Hee, Heeq}
use Rattle.frames.specs.Frame.{is_frame}

abbrev pub frame_number : Frame → ℤ
frame_number Hae = pos 1
frame_number Gei = pos 2
frame_number Hci = pos 3
frame_number Hee = pos 4
frame_number Heeq = pos 5

abbrev pub frames : List Frame
frames = Hae ∷ Gei ∷ Hci ∷ Hee ∷ Heeq ∷ []

abbrev pub frame_if : (is_frame : Bool) → ℤ → Result Frame Refusal
frame_if true n = Ok (get_or frames (nat_abs n - 1) Hae)
frame_if false n = Err NoSuchFrame

-- the frame of a number
unfoldable pub frame_of : ℤ → Result Frame Refusal
frame_of n = frame_if (is_frame n) n
