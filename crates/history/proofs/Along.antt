-- Of calls made one after the other: what each keeps is kept along the list, what is told of each is told along it, what
-- each shows as the ledger tells it is shown so along it, and calls made in turn by code are the list's. Assumes nothing.
use mathlib.Core.Path.{◌≡◌, refl, ap, ap₂, ◌∙◌}
use mathlib.Core.List.{List, [], ◌∷◌, map}
use Rattle.history.specs.Along.{Logged, left_by, log_by, ledger_by, told_by, Along, PerformedBy, called_in}

module _ {S L C A : Type 0} (answer : S → C → A) (after : S → C → S) (noted : L → C → A → L) (In : S → L → Type 0)
    (keeps : (c : C) (s : S) (l : L) → In s l → In (after s c) (noted l c (answer s c))) where
  pub along-kept : (cs : List C) (s : S) (l : L) → In s l → In (left_by after s cs) (ledger_by noted l (log_by answer after s cs))
  along-kept [] s l i = i
  along-kept (c ∷ cs) s l i = along-kept cs (after s c) (noted l c (answer s c)) (keeps c s l i)

  pub along-told : (Told : S → L → C → Type 0) → ((c : C) (s : S) (l : L) → In s l → Told s l c)
      → (cs : List C) (s : S) (l : L) → In s l → Along answer after noted Told s l cs
  along-told Told told [] s l i = tt
  along-told Told told (c ∷ cs) s l i = (told c s l i, along-told Told told cs (after s c) (noted l c (answer s c)) (keeps c s l i))

module _ {S L C A R : Type 0} (answer : S → C → A) (after : S → C → S) (noted : L → C → A → L) (Told : S → L → C → Type 0)
    (shows : A → R) (tells : L → C → R) (shown : (s : S) (l : L) (c : C) → Told s l c → shows (answer s c) ≡ tells l c) where
  pub along-shown : (cs : List C) (s : S) (l : L) → Along answer after noted Told s l cs
      → map (λ (e : Logged C A). shows e.answered) (log_by answer after s cs) ≡ told_by noted tells l (log_by answer after s cs)
  along-shown [] s l t = refl
  along-shown (c ∷ cs) s l t =
      ap₂ (λ (r : R) (rs : List R). r ∷ rs) (shown s l c t.0) (along-shown cs (after s c) (noted l c (answer s c)) t.1)

module _ {S C A : Type 0} (answer : S → C → A) (after : S → C → S) where
  pub log_is : (s t : S) (es : List (Logged C A)) → PerformedBy answer after s es t → log_by answer after s (called_in es) ≡ es
  log_is s t [] p = refl
  log_is s t (e ∷ es) p =
      λ j. record { called = e.called; answered = p.1.answers j }
      ∷ (ap (λ (u : S). log_by answer after u (called_in es)) p.1.leaves ∙ log_is p.0 t es p.2) j

  pub final-is : (s t : S) (es : List (Logged C A)) → PerformedBy answer after s es t → left_by after s (called_in es) ≡ t
  final-is s t [] p = p
  final-is s t (e ∷ es) p = ap (λ (u : S). left_by after u (called_in es)) p.1.leaves ∙ final-is p.0 t es p.2
