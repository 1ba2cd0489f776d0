-- What the body of a variable captures and sets (ISO/IEC 13816:2007, 12.7 and 14.2). Boxes and captured parts count
-- only for this profile's charges.
use Rattle.std.specs.Prelude.{ℕ, ◌==◌, Bool, false, not, ◌&&◌, ◌||◌}
use Rattle.std.specs.List.{list_any}
use Rattle.lang_meaning.specs.declared.capture.Capture.{Capture}
use Rattle.lang_meaning.specs.declared.capture.Capture.TheVariants.{Variable}
use Rattle.lang_meaning.specs.Form.{Form, set_local, lambda}
use Rattle.lang_meaning.specs.Subforms.{fold}
use Rattle.lang_meaning.specs.Mentions.{same_part, binds, some}

-- what a form captures of what stands around it, by what its inner forms do: a function captures its parts
abbrev pub captures_inside : Capture → Form → Bool → Bool
captures_inside p (lambda required rest body parts) inner = list_any (same_part p) parts
captures_inside p f inner = not (binds p f) && inner

-- whether a function made in the form captures the part; what is bound inside is another part
abbrev pub captures : Capture → Form → Bool
captures p f = fold (λ g outer inner. some outer || captures_inside p g (some inner)) f

abbrev pub sets_itself : ℕ → Form → Bool
sets_itself v (set_local w f) = v == w
sets_itself v f = false

-- whether the variable is set in the form, in the functions inside too; what is bound inside is another variable
abbrev pub sets : ℕ → Form → Bool
sets v f = fold (λ g outer inner. sets_itself v g || some outer || (not (binds (Variable v) g) && some inner)) f

-- a variable has a box of its own where its body both captures and sets it
abbrev pub has_box : ℕ → Form → Bool
has_box v f = captures (Variable v) f && sets v f
