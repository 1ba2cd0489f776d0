-- What a form is warned of, in words.
use Rattle.std.specs.Prelude.{ℕ, ◌==◌, Bool, List, ◌++◌, if◌then◌else◌, codes}
use Rattle.std.specs.Fmt.{decimal}
use Rattle.std.specs.Str.{bytes_eq}
use Rattle.lang_warnings.specs.declared.warning.Fault.{Fault}
use Rattle.lang_warnings.specs.declared.warning.Fault.TheVariants.{NoFunction, Arguments, NoVariable}

-- of a name that has no function: how the language says what other Lisps say by it, where it is such a name
abbrev pub advice : (name : List ℕ) → List ℕ
advice name =
    if bytes_eq name (codes "when") then codes ": write (if TEST (progn FORM ..))"
    else if bytes_eq name (codes "unless") then codes ": write (if (not TEST) (progn FORM ..))"
    else if bytes_eq name (codes "dolist") then codes ": write (mapc (lambda (NAME) FORM ..) LIST)"
    else if bytes_eq name (codes "dotimes") then codes ": write (for ((NAME 0 (+ NAME 1))) ((>= NAME COUNT)) FORM ..)"
    else if bytes_eq name (codes "loop") then codes ": write (while TEST FORM ..) or (for ..)"
    else if bytes_eq name (codes "push") then codes ": write (setf PLACE (cons ITEM PLACE))"
    else if bytes_eq name (codes "incf") then codes ": write (setf PLACE (+ PLACE 1))"
    else if bytes_eq name (codes "return") then codes ": write (return-from NAME FORM) in (block NAME FORM ..)"
    else if bytes_eq name (codes "defvar") then codes ": write (defglobal NAME FORM) or (defdynamic NAME FORM)"
    else if bytes_eq name (codes "defparameter") then codes ": write (defglobal NAME FORM) or (defdynamic NAME FORM)"
    else codes ""

-- `1 argument`, `2 arguments`, `2 or more arguments`
abbrev pub arguments_named : (count : ℕ) (more : Bool) → List ℕ
arguments_named count more =
    if more then codes " or more arguments" else if count == 1 then codes " argument" else codes " arguments"

abbrev pub warned : (name : List ℕ) → Fault → List ℕ
warned name NoFunction = (name ++ codes " names no function") ++ advice name
warned name (Arguments given required more) =
    (((name ++ codes " takes ") ++ decimal required) ++ arguments_named required more) ++ (codes ", and here are " ++ decimal given)
warned name NoVariable = name ++ codes " names no global variable"
