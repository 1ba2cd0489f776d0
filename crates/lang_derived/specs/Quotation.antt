-- Quasiquotation: the form that makes the datum of a template (ISO/IEC 13816:2007, 16). A number n with a
-- template says how many quasiquotations stand around the one that the innermost `unquote` would end.
use Rattle.std.specs.Prelude.{ℕ, zero, suc, ◌+◌, List, [], ◌∷◌, if◌then◌else◌, codes}
use Rattle.base.specs.declared.place.Place.{Place}
use Rattle.base.specs.Data.{Item, item, Content, integer, character, symbol, string, vector, nil, list, Items, no_item, item_and, Tail, no_tail, dotted}
use Rattle.lang_derived.specs.Pieces.{Piece, word, taken, parens, Pieces, no_piece, piece_and, listed, form}
use Rattle.lang_derived.specs.Asked.{is_word}

-- (quote name)
abbrev pub quoted_word : List ℕ → Piece
quoted_word name = form (codes "quote") (word name ∷ [])

-- (%list (quote name) x)
abbrev pub kept_prefix : List ℕ → Piece → Piece
kept_prefix name x = form (codes "%list") (quoted_word name ∷ x ∷ [])

-- (%append x*)
abbrev pub appended : Pieces → Piece
appended xs = parens (piece_and (word (codes "%append")) xs)

abbrev pub one_piece : Piece → Pieces
one_piece x = piece_and x no_piece

unfoldable mutual
  -- Q(d, n)
  pub template : List (List ℕ) → ℕ → Item → Piece
  template names n (item p c) = template_of names n p c

  pub template_of : List (List ℕ) → ℕ → Place → Content → Piece
  template_of names n p (integer z) = form (codes "quote") (taken (item p (integer z)) ∷ [])
  template_of names n p (character c) = form (codes "quote") (taken (item p (character c)) ∷ [])
  template_of names n p (symbol s) = form (codes "quote") (taken (item p (symbol s)) ∷ [])
  template_of names n p (string bytes) = form (codes "quote") (taken (item p (string bytes)) ∷ [])
  template_of names n p nil = form (codes "quote") (taken (item p nil) ∷ [])
  template_of names n p (vector ds) = form (codes "%list-vector") (template_list names n ds no_piece ∷ [])
  template_of names n p (list ds t) = template_list names n ds (tail_part names n t)

  -- the part of what stands behind the dot, where there is a dot
  pub tail_part : List (List ℕ) → ℕ → Tail → Pieces
  tail_part names n no_tail = no_piece
  tail_part names n (dotted d) = one_piece (template names n d)

  -- a list of these items, with that part behind the dot: `(unquote e)`, `(quasiquote e)`, and other lists
  pub template_list : List (List ℕ) → ℕ → Items → Pieces → Piece
  template_list names n no_item behind = form (codes "quote") (listed [] ∷ [])
  template_list names n (item_and x (item_and e no_item)) no_piece =
      if is_word names (codes "unquote") x then unquoted names n e
      else if is_word names (codes "quasiquote") x then kept_prefix (codes "quasiquote") (template names (n + 1) e)
      else appended (piece_and (part names n x) (one_piece (part names n e)))
  template_list names n (item_and x ds) behind = appended (piece_and (part names n x) (parts names n ds behind))

  -- (unquote e): e itself, or the list of an unquotation that belongs to an outer template
  pub unquoted : List (List ℕ) → ℕ → Item → Piece
  unquoted names zero (item p c) = taken (item p c)
  unquoted names (suc n) (item p c) = kept_prefix (codes "unquote") (template_of names n p c)

  -- (unquote-splicing e)
  pub spliced : List (List ℕ) → ℕ → Item → Piece
  spliced names zero (item p c) = taken (item p c)
  spliced names (suc n) (item p c) = form (codes "%list") (kept_prefix (codes "unquote-splicing") (template_of names n p c) ∷ [])

  -- S(x)
  pub part : List (List ℕ) → ℕ → Item → Piece
  part names n (item p (list (item_and x (item_and e no_item)) no_tail)) =
      if is_word names (codes "unquote-splicing") x then spliced names n e
      else form (codes "%list") (template_of names n p (list (item_and x (item_and e no_item)) no_tail) ∷ [])
  part names n (item p c) = form (codes "%list") (template_of names n p c ∷ [])

  -- what follows the first item of a list; where the last two items are `unquote` and e, they are its tail
  pub parts : List (List ℕ) → ℕ → Items → Pieces → Pieces
  parts names n no_item behind = behind
  parts names n (item_and x (item_and e no_item)) no_piece =
      if is_word names (codes "unquote") x then one_piece (unquoted names n e)
      else piece_and (part names n x) (one_piece (part names n e))
  parts names n (item_and x ds) behind = piece_and (part names n x) (parts names n ds behind)
