-- All entries that are cut into baskets.
use Rattle.std.proofs.{Common.{◌≡◌, ℕ, List, [], ◌∷◌, ◌++◌, length, Bool, true, false, cond, sym, ap, ◌∙◌, append_assoc, append-nil}}
use Rattle.rio_key.specs.{OpenBasket.{takes_entry}, Cut.{Cut, all_entries, baskets_of_cut, cut_behind, cut_into_baskets, cut_more, cut_of}}

abbrev pub all_of : Cut → List (List ℕ)
all_of cut = all_entries cut.put ++ cut.rest

all_entries_more : (put : List (List (List ℕ))) (rest : List (List ℕ)) → all_entries (put ++ rest ∷ []) ≡ all_entries put ++ rest
all_entries_more [] rest = append-nil rest
all_entries_more (b ∷ bs) rest = ap (λ (l : List (List ℕ)). b ++ l) (all_entries_more bs rest) ∙ sym (append_assoc b (all_entries bs) rest)

all_more : (cut : Cut) (entry : List ℕ) → all_of (cut_more cut entry) ≡ all_of cut ++ entry ∷ []
all_more cut entry = by (takes_entry cut.rest (length entry))
  where
    by : (b : Bool) → all_of (cond b (record { put = cut.put; rest = cut.rest ++ entry ∷ [] }) (record { put = cut.put ++ cut.rest ∷ []; rest = entry ∷ [] })) ≡ all_of cut ++ entry ∷ []
    by true = sym (append_assoc (all_entries cut.put) cut.rest (entry ∷ []))
    by false = ap (λ (l : List (List ℕ)). l ++ entry ∷ []) (all_entries_more cut.put cut.rest)

all_behind : (cut : Cut) (entries : List (List ℕ)) → all_of (cut_behind cut entries) ≡ all_of cut ++ entries
all_behind cut [] = sym (append-nil (all_of cut))
all_behind cut (e ∷ es) = all_behind (cut_more cut e) es ∙ ap (λ (l : List (List ℕ)). l ++ es) (all_more cut e) ∙ append_assoc (all_of cut) (e ∷ []) es

pub all_of_cut : (entries : List (List ℕ)) → all_of (cut_of entries) ≡ entries
all_of_cut entries = all_behind (record { put = []; rest = [] }) entries

baskets_all : (cut : Cut) → all_entries (baskets_of_cut cut) ≡ all_of cut
baskets_all cut = by cut.rest
  where
    by : (rest : List (List ℕ)) → all_entries (baskets_of_cut (record { put = cut.put; rest = rest })) ≡ all_entries cut.put ++ rest
    by [] = ap all_entries (append-nil cut.put) ∙ sym (append-nil (all_entries cut.put))
    by (e ∷ es) = all_entries_more cut.put (e ∷ es)

-- they are the entries, in their order
pub cut_holds_all : (entries : List (List ℕ)) → all_entries (cut_into_baskets entries) ≡ entries
cut_holds_all entries = baskets_all (cut_of entries) ∙ all_of_cut entries
