-- The names that the language keeps to itself (ISO/IEC 13816:2007, 12 to 15 and 29.2): those of special and defining forms, of
-- forms that this profile leaves out, and the names beginning with % of its own.
use Rattle.std.specs.Prelude.{ℕ, ◌||◌, Bool, List, [], ◌∷◌, Option, codes}
use Rattle.std.specs.List.{find, list_any}
use Rattle.std.specs.Str.{bytes_eq}
use Rattle.lang_derived.specs.Table.{is_derived}
use Rattle.front_profile.specs.declared.special.Special.{Special}
use Rattle.front_profile.specs.declared.special.Special.TheVariants.{Quote, Setq, Cond, Progn, Let, Lambda, Apply, While, Block, ReturnFrom, Tagbody, Go, Catch, Throw, UnwindProtect, DynamicLet, Dynamic, SetDynamic, WithHandler, Function, Class, CallNextMethod, NextMethodP, WithFunctions, Defglobal, Defconstant, Defdynamic, Defun, Defmacro, Defclass, Defgeneric, Defmethod}
use Rattle.front_profile.specs.Primitives.{is_own_name, is_direct_name}

abbrev pub special_text : Special → List ℕ
special_text Quote = codes "quote"
special_text Setq = codes "setq"
special_text Cond = codes "cond"
special_text Progn = codes "progn"
special_text Let = codes "let"
special_text Lambda = codes "lambda"
special_text Apply = codes "%apply"
special_text While = codes "while"
special_text Block = codes "block"
special_text ReturnFrom = codes "return-from"
special_text Tagbody = codes "tagbody"
special_text Go = codes "go"
special_text Catch = codes "catch"
special_text Throw = codes "throw"
special_text UnwindProtect = codes "unwind-protect"
special_text DynamicLet = codes "dynamic-let"
special_text Dynamic = codes "dynamic"
special_text SetDynamic = codes "set-dynamic"
special_text WithHandler = codes "with-handler"
special_text Function = codes "function"
special_text Class = codes "class"
special_text CallNextMethod = codes "call-next-method"
special_text NextMethodP = codes "next-method-p"
special_text WithFunctions = codes "%with-functions"
special_text Defglobal = codes "defglobal"
special_text Defconstant = codes "defconstant"
special_text Defdynamic = codes "defdynamic"
special_text Defun = codes "defun"
special_text Defmacro = codes "defmacro"
special_text Defclass = codes "defclass"
special_text Defgeneric = codes "defgeneric"
special_text Defmethod = codes "defmethod"

abbrev pub all_specials : List Special
all_specials =
    Quote ∷ Setq ∷ Cond ∷ Progn ∷ Let ∷ Lambda ∷ Apply ∷ While ∷ Block ∷ ReturnFrom ∷ Tagbody ∷ Go ∷ Catch ∷ Throw ∷ UnwindProtect ∷ DynamicLet ∷ Dynamic ∷ SetDynamic ∷ WithHandler ∷ Function ∷ Class ∷ CallNextMethod ∷ NextMethodP ∷ WithFunctions ∷ Defglobal ∷ Defconstant ∷ Defdynamic ∷ Defun ∷ Defmacro ∷ Defclass ∷ Defgeneric ∷ Defmethod ∷ []

abbrev pub has_text : List ℕ → Special → Bool
has_text text s = bytes_eq (special_text s) text

-- the special or defining form of that name
abbrev pub special_named : List ℕ → Option Special
special_named text = find (has_text text) all_specials

abbrev pub is_among : List ℕ → List (List ℕ) → Bool
is_among text texts = list_any (λ other. bytes_eq other text) texts

-- special forms of the standard that this profile leaves out
abbrev pub left_out : List (List ℕ)
left_out =
    codes "with-open-input-file"
    ∷ codes "with-open-output-file"
    ∷ codes "with-open-io-file"
    ∷ codes "with-standard-input"
    ∷ codes "with-standard-output"
    ∷ codes "with-error-output"
    ∷ []

abbrev pub is_left_out : List ℕ → Bool
is_left_out text = is_among text left_out

-- functions of the prelude that the steps of derived forms call
abbrev pub step_functions : List (List ℕ)
step_functions =
    codes "%memv"
    ∷ codes "%memp"
    ∷ codes "%list"
    ∷ codes "%append"
    ∷ codes "%list-vector"
    ∷ codes "%convert"
    ∷ codes "%domain-error"
    ∷ []

-- the names of forms, and those of primitives that begin with %
abbrev pub is_of_language : List ℕ → Bool
is_of_language text = list_any (has_text text) all_specials || is_derived text || is_left_out text || is_own_name text

-- names that no local function may have
abbrev pub is_kept : List ℕ → Bool
is_kept text = is_of_language text || is_among text step_functions

-- names that no definition of a file may have, those of the prelude's functions aside
abbrev pub is_reserved_text : List ℕ → Bool
is_reserved_text text = is_of_language text || is_direct_name text
