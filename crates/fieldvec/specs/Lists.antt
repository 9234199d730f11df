-- Document 01, module 3: a short list, a fixed array with a count; correction.rs bounds it at 7. Answer 25: the list is full; answer 26: it
-- is empty, a place lies outside it, or lengths are unlike. Both leave the list as it was.
use Rattle.std.specs.Prelude.{Bool, true, false, ◌&&◌, ⊤, Result, Ok, Err, List, [], ◌∷◌, ◌++◌, map, reverse, ℕ, ◌+◌, ◌-◌, ◌%◌, ◌<◌, leb, ltb, eqb, length, set, get_or, take, drop, replicate}
use denote.Ref.{Bor}
use Rattle.laws.specs.Pick.{pick}
use Rattle.laws.specs.Lists.{table, Every}
use Rattle.numbers.specs.declared.Refusal.{Refusal}
use Rattle.numbers.specs.declared.Refusal.TheVariants.{ListFull, ListPlace}
use Rattle.gf32_ext.specs.Field.{field_order, product, power}
use Rattle.fieldvec.specs.declared.FieldVec.{FieldVec}

-- how many elements a list has room for
abbrev pub capacity : ℕ
capacity = 7

-- what a FieldVec means: the first `len` of its numbers, each an element of GF(1024), that is by its remainder modulo the field's order
abbrev pub elements : FieldVec → List ℕ
elements t = take t.len t.items

-- every stored number is below the field's order: an element as it stands
abbrev pub Narrow : FieldVec → Type 0
Narrow t = Every (λ v. v < field_order) t.items

-- a list for which there is room as a FieldVec, with zeros in the places after it
abbrev pub listed : List ℕ → FieldVec
listed l = record { items = l ++ replicate (capacity - length l) 0; len = length l }

-- ---- what a call gives of an answer that changes a list, and which list it leaves: the one that was, where it refuses

abbrev pub given : {A : Type 0} → Result (A × FieldVec) Refusal → Result A Refusal
given (Ok made) = Ok made.0
given (Err refusal) = Err refusal

abbrev pub left : {A : Type 0} → FieldVec → Result (A × FieldVec) Refusal → FieldVec
left t (Ok made) = made.1
left t (Err refusal) = t

-- ---- the answers

-- the list itself
unfoldable pub shown : FieldVec → ℕ × ℕ → Result (Bor (List ℕ)) Refusal
shown t place = pick (ltb capacity t.len) (Err ListPlace) (Ok (record { ref_ptr = place; now = elements t }))

-- the element after those in the list
unfoldable pub pushed : FieldVec → ℕ → Result (⊤ × FieldVec) Refusal
pushed t v =
    pick (leb capacity t.len) (Err ListFull)
    (Ok (tt, record { items = set t.items t.len (v % field_order); len = t.len + 1 }))

-- the last element, and the list without it; its place becomes zero
unfoldable pub popped_back : FieldVec → Result (ℕ × FieldVec) Refusal
popped_back t =
    pick (eqb t.len 0) (Err ListPlace)
    (pick (ltb capacity t.len) (Err ListPlace)
    (Ok (get_or t.items (t.len - 1) 0 % field_order, record { items = set t.items (t.len - 1) 0; len = t.len - 1 })))

-- the first element, and the list without it
unfoldable pub popped_front : FieldVec → Result (ℕ × FieldVec) Refusal
popped_front t =
    pick (eqb t.len 0) (Err ListPlace)
    (pick (ltb capacity t.len) (Err ListPlace)
    (Ok (get_or t.items 0 0 % field_order, listed (drop 1 (elements t)))))

-- the element at a place, counted from 0
unfoldable pub got : FieldVec → ℕ → Result ℕ Refusal
got t i =
    pick (ltb capacity t.len) (Err ListPlace)
    (pick (leb t.len i) (Err ListPlace) (Ok (get_or t.items i 0 % field_order)))

-- the products of the elements at the same place
unfoldable pub pointwise : List ℕ → List ℕ → List ℕ
pointwise [] ys = []
pointwise (x ∷ xs) [] = []
pointwise (x ∷ xs) (y ∷ ys) = product x y ∷ pointwise xs ys

unfoldable pub multiplied_pointwise : FieldVec → FieldVec → Result (⊤ × FieldVec) Refusal
multiplied_pointwise t u =
    pick (eqb t.len u.len)
    (pick (ltb capacity t.len) (Err ListPlace) (Ok (tt, listed (pointwise (elements t) (elements u)))))
    (Err ListPlace)

unfoldable pub reversed : FieldVec → Result (⊤ × FieldVec) Refusal
reversed t = pick (ltb capacity t.len) (Err ListPlace) (Ok (tt, listed (reverse (elements t))))

-- the same elements, one by one
unfoldable pub alike : List ℕ → List ℕ → Bool
alike [] [] = true
alike [] (y ∷ ys) = false
alike (x ∷ xs) [] = false
alike (x ∷ xs) (y ∷ ys) = eqb (x % field_order) (y % field_order) && alike xs ys

unfoldable pub compared : FieldVec → FieldVec → Result Bool Refusal
compared t u =
    pick (ltb capacity t.len) (Err ListPlace)
    (pick (ltb capacity u.len) (Err ListPlace) (Ok (alike (elements t) (elements u))))

-- a symbol of GF(32) as an element of GF(1024): the embedding v + 0 e, which is the number v; a symbol over 31 counts by its remainder
abbrev pub symbol_of : ℕ → ℕ
symbol_of v = v % 32

unfoldable pub lifted : List ℕ → Result FieldVec Refusal
lifted symbols = pick (ltb capacity (length symbols)) (Err ListFull) (Ok (listed (map symbol_of symbols)))

-- base^0, base^1, .., n of them
unfoldable pub powers_given : ℕ → ℕ → Result FieldVec Refusal
powers_given base n = pick (ltb capacity n) (Err ListFull) (Ok (listed (table (power base) n)))
