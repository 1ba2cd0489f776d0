-- What holds of all places of a datum.
use Rattle.base.specs.declared.place.Place.{Place}
use Rattle.base.specs.Data.{Item, item, Content, integer, character, symbol, string, vector, nil, list, Items, no_item, item_and, Tail, no_tail, dotted}

-- `AllPlaces P d`: P holds of the place of d, and of those of all data inside it
unfoldable mutual
  pub AllPlaces : (Place → Type 0) → Item → Type 0
  AllPlaces P (item p c) = P p × AllPlacesInside P c

  pub AllPlacesInside : (Place → Type 0) → Content → Type 0
  AllPlacesInside P (integer n) = Unit {0}
  AllPlacesInside P (character c) = Unit {0}
  AllPlacesInside P (symbol s) = Unit {0}
  AllPlacesInside P (string bytes) = Unit {0}
  AllPlacesInside P (vector ds) = AllPlacesAmong P ds
  AllPlacesInside P nil = Unit {0}
  AllPlacesInside P (list ds t) = AllPlacesAmong P ds × AllPlacesBehind P t

  pub AllPlacesAmong : (Place → Type 0) → Items → Type 0
  AllPlacesAmong P no_item = Unit {0}
  AllPlacesAmong P (item_and d ds) = AllPlaces P d × AllPlacesAmong P ds

  pub AllPlacesBehind : (Place → Type 0) → Tail → Type 0
  AllPlacesBehind P no_tail = Unit {0}
  AllPlacesBehind P (dotted d) = AllPlaces P d
