-- Items that go out one by one, each after a space.
use Rattle.std.proofs.Common.{◌≡◌, ℕ, ◌+◌, ◌<◌, List, [], ◌∷◌, ◌++◌, length, get_or, take, drop, Option, Err, sym, ap, ◌∙◌, append_assoc}
use Rattle.std.specs.Io.KnownBytes.{Appends}
use Rattle.std.proofs.lemmas.List.{take_more, take-append-drop, append-nil}
use Rattle.std.proofs.lemmas.Grind.{flat_map-append}
use Rattle.jlr_wire.specs.Replies.{AppendsFront, spaced}
use Rattle.jlr_wire.proofs.Sending.{then_sends, front_first, front_same}

-- the items up to one and with it
spaced_more : {T : Type 0} (text : T → List ℕ) (items : List T) (i : ℕ) (item : T) → i < length items → item ≡ get_or items i item
    → spaced text (take (i + 1) items) ≡ spaced text (take i items) ++ (32 ∷ text item)
spaced_more text items i item lt is =
    ap (spaced text) (take_more items i item lt)
    ∙ flat_map-append (λ t. 32 ∷ text t) (take i items) (get_or items i item ∷ [])
    ∙ ap (λ bytes. spaced text (take i items) ++ bytes) (append-nil (32 ∷ text (get_or items i item)) ∙ ap (λ t. 32 ∷ text t) (sym is))

-- and then those after it
spaced_whole : {T : Type 0} (text : T → List ℕ) (items : List T) (n : ℕ) → spaced text (take n items)
    ++ spaced text (drop n items) ≡ spaced text items
spaced_whole text items n =
    sym (flat_map-append (λ t. 32 ∷ text t) (take n items) (drop n items)) ∙ ap (spaced text) (take-append-drop n items)

-- an item went out in part
pub spaced_cut : {T : Type 0} (text : T → List ℕ) (items : List T) (i : ℕ) (item : T) (word : List ℕ) (a b c : Option (List ℕ))
    → i < length items → item ≡ get_or items i item
    → Appends a b (word ++ spaced text (take i items)) → AppendsFront b c (32 ∷ text item) → AppendsFront a c (word ++ spaced text items)
spaced_cut text items i item word a b c lt is h k =
    let front = spaced text (take i items) in
    let rest = spaced text (drop (i + 1) items) in
    let sent : AppendsFront a c ((word ++ front) ++ (32 ∷ text item)) =
    then_sends a b c (Err (tt {0})) (word ++ front) (32 ∷ text item) h k in
    let up_to : (word ++ front) ++ (32 ∷ text item) ≡ word ++ spaced text (take (i + 1) items)
    = append_assoc word front (32 ∷ text item) ∙ ap (λ bytes. word ++ bytes) (sym (spaced_more text items i item lt is)) in
    let whole : (word ++ spaced text (take (i + 1) items)) ++ rest ≡ word ++ spaced text items
    = append_assoc word (spaced text (take (i + 1) items)) rest ∙ ap (λ bytes. word ++ bytes) (spaced_whole text items (i + 1)) in
    front_same a c _ _ whole (front_first a c (word ++ spaced text (take (i + 1) items)) rest (front_same a c _ _ up_to sent))
