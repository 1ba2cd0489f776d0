-- Data of which all characters, also those of strings, are bytes.
use Rattle.base.specs.Data.{Item, item, Content, integer, character, symbol, string, vector, nil, list}
use Rattle.base.specs.Data.{Items, no_item, item_and, Tail, no_tail, dotted}
use Rattle.base.specs.AllOf.{AllOf}
use Rattle.lang_taken.specs.Taken.{IsByte}

abbrev mutual
  pub HasBytes : Item → Type 0
  HasBytes (item p c) = HasBytesInside c

  pub HasBytesInside : Content → Type 0
  HasBytesInside (integer n) = Unit {0}
  HasBytesInside (character c) = IsByte c
  HasBytesInside (symbol s) = Unit {0}
  HasBytesInside (string bytes) = AllOf IsByte bytes
  HasBytesInside (vector ds) = AllHaveBytes ds
  HasBytesInside nil = Unit {0}
  HasBytesInside (list ds t) = AllHaveBytes ds × TailHasBytes t

  pub AllHaveBytes : Items → Type 0
  AllHaveBytes no_item = Unit {0}
  AllHaveBytes (item_and d ds) = HasBytes d × AllHaveBytes ds

  pub TailHasBytes : Tail → Type 0
  TailHasBytes no_tail = Unit {0}
  TailHasBytes (dotted d) = HasBytes d
