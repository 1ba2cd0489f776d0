-- Procedures that functions of definitions leave: what each takes, whether it may have a next method, and its number.
use Rattle.std.proofs.Common.{◌≡◌, ◌+◌, ℕ, Bool, true, false, List, [], ◌∷◌, ◌++◌, length, Some, is_some, slice_get}
use Rattle.lang_meaning.specs.declared.program.Procedure.{Procedure}
use Rattle.lang_meaning.specs.Standing.{is_alone}
use Rattle.front_profile.specs.Nodes.{Part, form, below, inner, bind, parameter, wrong, function, Written, initform, accessor, method}
use Rattle.base.specs.Data.{Item}
use Rattle.base.specs.AllOf.{AllOf}
use Rattle.front_profile.specs.Elaborations.{arguments_of}
use Rattle.front_profile.specs.RowWords.{each_inner}
use Rattle.front_profile.specs.Definitions.{Definitions, Later, SoundDefinitions}

-- a procedure that takes so many arguments, and more or not, and stands alone or in a method
pub record Takes (required : ℕ) (rest has_next : Bool) (p : Procedure) : Type 0 where
  pub count : length p.required ≡ required
  pub more : is_some p.rest ≡ rest
  pub alone : is_alone has_next (Some p) ≡ true

abbrev pub IsFor : Written → Procedure → Type 0
IsFor (initform d) p = Takes 0 false false p
IsFor (accessor n k d) p = Takes (arguments_of k) false false p
IsFor (method n has_next ps fs) p = Takes (length ps.required) (is_some ps.rest) has_next p

-- the procedure of that number is one of that function
pub record IsProcedureOf (w : Written) (ps : List Procedure) (n : ℕ) : Type 0 where
  pub procedure : Procedure
  pub at : slice_get ps n ≡ Some procedure
  pub is : IsFor w procedure

-- each function among the parts has the next number, and there are no others
abbrev pub MadeFrom : ℕ → List Part → List Procedure → Type 0
MadeFrom n [] ps = length ps ≡ n
MadeFrom n (form d ∷ xs) ps = MadeFrom n xs ps
MadeFrom n (below d ∷ xs) ps = MadeFrom n xs ps
MadeFrom n (inner d ∷ xs) ps = MadeFrom n xs ps
MadeFrom n (bind x d ∷ xs) ps = MadeFrom n xs ps
MadeFrom n (parameter x ∷ xs) ps = MadeFrom n xs ps
MadeFrom n (wrong p r ∷ xs) ps = MadeFrom n xs ps
MadeFrom n (function w ∷ xs) ps = IsProcedureOf w ps n × MadeFrom (n + 1) xs ps

-- nothing but procedures more
pub record Same (g h : Definitions) : Type 0 where
  pub classes : h.classes ≡ g.classes
  pub generics : h.generics ≡ g.generics
  pub functions : h.functions ≡ g.functions

-- one procedure more, that of the function
pub record OneProcedureMore (w : Written) (g h : Definitions) : Type 0 where
  pub later : Later g h
  pub whole : SoundDefinitions h
  pub main : h.main ≡ g.main
  pub same : Same g h
  pub procedure : Procedure
  pub procedures : h.procedures ≡ g.procedures ++ procedure ∷ []
  pub is : IsFor w procedure

-- parts that leave no procedure of their own
abbrev pub IsOrdinary : Part → Type 0
IsOrdinary (function w) = ⊥
IsOrdinary other = Unit {0}

abbrev pub AllOrdinary : List Part → Type 0
AllOrdinary xs = AllOf IsOrdinary xs

-- parts below top level, where outside or inside may be top level
abbrev pub IsLow : Bool → Bool → Part → Type 0
IsLow o i (form d) = o ≡ false
IsLow o i (below d) = Unit {0}
IsLow o i (inner d) = i ≡ false
IsLow o i (bind x d) = o ≡ false
IsLow o i (parameter x) = o ≡ false
IsLow o i (wrong p r) = Unit {0}
IsLow o i (function w) = Unit {0}

abbrev pub AllLow : Bool → Bool → List Part → Type 0
AllLow o i xs = AllOf (IsLow o i) xs

is_low : (o i : Bool) (x : Part) → o ≡ false → i ≡ false → IsLow o i x
is_low o i (form d) e f = e
is_low o i (below d) e f = tt
is_low o i (inner d) e f = f
is_low o i (bind x d) e f = e
is_low o i (parameter x) e f = e
is_low o i (wrong p r) e f = tt
is_low o i (function w) e f = tt

pub all_low : (o i : Bool) (xs : List Part) → o ≡ false → i ≡ false → AllLow o i xs
all_low o i [] e f = tt
all_low o i (x ∷ xs) e f = (is_low o i x e f, all_low o i xs e f)

pub inner_ordinary : (ds : List Item) → AllOrdinary (each_inner ds)
inner_ordinary [] = tt
inner_ordinary (d ∷ ds) = (tt, inner_ordinary ds)
