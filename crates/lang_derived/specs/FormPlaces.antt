-- Where forms stand in what a step writes: which parts of a written form are forms, by the name in front of it.
use Rattle.std.specs.Prelude.{ℕ, List, [], ◌∷◌, if◌then◌else◌, codes}
use Rattle.std.specs.Str.{bytes_eq}
use Rattle.lang_derived.specs.Pieces.{Piece, word, made, taken, parens, Pieces, no_piece, piece_and}
use Rattle.lang_derived.specs.Table.{is_derived}

mutual
  -- the role of a part: no form (a name, a parameter list, a quoted datum), a form, or a list of such parts
  pub data Role : Type 0 where
    no_form : Role
    a_form : Role
    a_list : Shape → Role

  -- the roles of the parts of a list: there is no part, each part has this role, or the first part has it
  -- and the others have those of the rest
  pub data Shape : Type 0 where
    no_part : Shape
    each : Role → Shape
    first : Role → Shape → Shape

-- a clause of `cond`: (x f*)
abbrev pub clause : Role
clause = a_list (each a_form)

-- a binding: (v x)
abbrev pub binding : Role
binding = a_list (first no_form (first a_form no_part))

-- what stands behind the name of a special form
abbrev pub shapes : List (List ℕ × Shape)
shapes =
    -- (quote d)
    (codes "quote", first no_form no_part)
    -- (class c)
    ∷ (codes "class", first no_form no_part)
    -- (setq v x)
    ∷ (codes "setq", first no_form (first a_form no_part))
    -- (set-dynamic x v)
    ∷ (codes "set-dynamic", first a_form (first no_form no_part))
    -- (return-from name x)
    ∷ (codes "return-from", first no_form (first a_form no_part))
    -- (block name f*)
    ∷ (codes "block", first no_form (each a_form))
    -- (lambda l f*)
    ∷ (codes "lambda", first no_form (each a_form))
    -- (%with-functions ((g v)*) f*)
    ∷ (codes "%with-functions", first no_form (each a_form))
    -- (let ((v x)*) f*)
    ∷ (codes "let", first (a_list (each binding)) (each a_form))
    -- (cond (x f*)*)
    ∷ (codes "cond", each clause)
    ∷ []

-- behind each other name all parts are forms: f*
abbrev pub shape_in : List (List ℕ × Shape) → List ℕ → Shape
shape_in [] name = each a_form
shape_in (row ∷ rows) name = if bytes_eq name row.0 then row.1 else shape_in rows name

-- the roles of the parts behind a written name; behind a derived name nothing is asked: the form is derived itself
unfoldable pub shape_of : List ℕ → Shape
shape_of name = if is_derived name then each no_form else shape_in shapes name

abbrev mutual
  -- `StandsAs role x`: the part x of a right side has this role. A form is a symbol, nil, a part of the form
  -- that the step was taken of, or a list with a written name in front.
  pub StandsAs : Role → Piece → Type 0
  StandsAs no_form x = Unit {0}
  StandsAs a_form (word text) = Unit {0}
  StandsAs a_form (made serial) = Unit {0}
  StandsAs a_form (taken d) = Unit {0}
  StandsAs a_form (parens xs) = StandsNamed xs
  StandsAs (a_list shape) (word text) = ⊥
  StandsAs (a_list shape) (made serial) = ⊥
  StandsAs (a_list shape) (taken d) = Unit {0}
  StandsAs (a_list shape) (parens xs) = StandBy shape xs

  -- a list as a form: the parts behind the name have the roles of its shape; `()` is nil
  pub StandsNamed : Pieces → Type 0
  StandsNamed no_piece = Unit {0}
  StandsNamed (piece_and (word text) xs) = StandBy (shape_of text) xs
  StandsNamed (piece_and (made serial) xs) = ⊥
  StandsNamed (piece_and (taken d) xs) = ⊥
  StandsNamed (piece_and (parens ys) xs) = ⊥

  -- the parts of a list have the roles of the shape
  pub StandBy : Shape → Pieces → Type 0
  StandBy no_part no_piece = Unit {0}
  StandBy no_part (piece_and x xs) = ⊥
  StandBy (each role) no_piece = Unit {0}
  StandBy (each role) (piece_and x xs) = StandsAs role x × StandBy (each role) xs
  StandBy (first role shape) no_piece = ⊥
  StandBy (first role shape) (piece_and x xs) = StandsAs role x × StandBy shape xs
