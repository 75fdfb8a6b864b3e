-- What the reading of one line answers.
use Rattle.std.proofs.Common.{◌≡◌, ℕ, ◌^◌, ◌<◌, Bool, true, false, List, [], ◌∷◌, ◌++◌, ap, sym, ◌∙◌, append_assoc}
use Rattle.std.specs.Cmp.Lexicographic.{pointwise}
use Rattle.std.specs.Prelude.{nat_eq}
use Rattle.std.proofs.lemmas.Bool.Decides.{Decides-eqb}
use Rattle.std.proofs.lemmas.List.{append_cancel_right}
use Rattle.std.proofs.lemmas.Slice.Eq.{slice_eq-Decides}
use Rattle.flat_model.specs.declared.events.Logged.{Logged}
use Rattle.flat_model.specs.declared.logs.End.{End}
use Rattle.flat_model.specs.declared.parts.Config.{Config}
use Rattle.flat_model.specs.Log.{is_named_item}
use Rattle.flat_model.specs.Sound.{IsSound}
use Rattle.flat_model.specs.Text.{end_line, item_line}
use Rattle.run_log.specs.Candidates.{end_of, item_of}
use Rattle.run_log.specs.LineWords.{words_of}
use Rattle.run_log.specs.Lines.{HasNoLine, IsParted}
use Rattle.run_log.specs.Stops.{HasNoEnd, HasNoItem, IsEndAt, IsEndOf, IsItemAt, IsItemOf, IsNoEnd, IsNoItem}
use Rattle.run_log.proofs.LineLemmas.{end_of_line, has_no_end, has_no_item, item_of_line, no_end_feedless, no_item_feedless, no_line_feedless}
use Rattle.run_log.proofs.TypedBack.{typed_end, typed_item}

-- what was printed is the line, exactly where the text is the line with a line feed
pub same_line : (old page line text : List ℕ) (r : Bool) → old ≡ [] → page ++ 10 ∷ [] ≡ old ++ text → r ≡ pointwise nat_eq page line
    → (r ≡ true → text ≡ line ++ 10 ∷ []) × (text ≡ line ++ 10 ∷ [] → r ≡ true)
same_line old page line text r none printed test =
    let decides = slice_eq-Decides Decides-eqb page line r test in
    let whole : page ++ 10 ∷ [] ≡ text = printed ∙ ap (λ xs. xs ++ text) none in
    ((λ yes. sym whole ∙ ap (λ xs. xs ++ 10 ∷ []) (decides.0 yes)), (λ is. decides.1 (append_cancel_right page line (10 ∷ []) (whole ∙ is))))

pub item_found : (cfg : Config) (line : List ℕ) (i : Logged) → i ≡ item_of cfg (words_of line) → is_named_item cfg i ≡ true → item_line cfg i ≡ line ++ 10 ∷ [] → IsItemOf cfg line i
item_found cfg line i is named text = record { named = named; typed = rw is (typed_item cfg (words_of line)); text = text }

pub item_unnamed : (cfg : Config) (line : List ℕ) (i : Logged) → IsSound cfg → i ≡ item_of cfg (words_of line) → is_named_item cfg i ≡ false → IsNoItem cfg line
item_unnamed cfg line i sound is named = record {
  none = λ j of.
      let same : i ≡ j = is ∙ item_of_line cfg line j sound of in
      let both : false ≡ true = sym named ∙ ap (is_named_item cfg) same ∙ of.named in absurd (cc);
}

pub item_other : (cfg : Config) (line : List ℕ) (i : Logged) → IsSound cfg → i ≡ item_of cfg (words_of line) → (item_line cfg i ≡ line ++ 10 ∷ [] → ⊥) → IsNoItem cfg line
item_other cfg line i sound is other = record {
  none = λ j of. other (ap (item_line cfg) (is ∙ item_of_line cfg line j sound of) ∙ of.text);
}

pub end_found : (cfg : Config) (t : ℕ) (line : List ℕ) (end : End) → end ≡ end_of (words_of line) → end_line cfg t end ≡ line ++ 10 ∷ [] → IsEndOf cfg t line end
end_found cfg t line end is text = record { typed = rw is (typed_end (words_of line)); text = text }

pub end_other : (cfg : Config) (t : ℕ) (line : List ℕ) (end : End) → IsSound cfg → t < 2 ^ 64 → end ≡ end_of (words_of line) → (end_line cfg t end ≡ line ++ 10 ∷ [] → ⊥) → IsNoEnd cfg t line
end_other cfg t line end sound small is other = record {
  none = λ e of. other (ap (end_line cfg t) (is ∙ end_of_line cfg t line e sound small of) ∙ of.text);
}

pub item_at : (cfg : Config) (bytes line rest : List ℕ) (i : Logged) → IsParted bytes line rest → IsItemOf cfg line i → IsItemAt cfg bytes i rest
item_at cfg bytes line rest i parted of = record {
  named = of.named;
  typed = of.typed;
  whole = parted.whole ∙ sym (append_assoc line (10 ∷ []) rest) ∙ ap (λ xs. xs ++ rest) (sym of.text);
}

pub end_at : (cfg : Config) (t : ℕ) (bytes line rest : List ℕ) (end : End) → IsParted bytes line rest → IsEndOf cfg t line end → IsEndAt cfg t bytes end rest
end_at cfg t bytes line rest end parted of = record {
  typed = of.typed;
  whole = parted.whole ∙ sym (append_assoc line (10 ∷ []) rest) ∙ ap (λ xs. xs ++ rest) (sym of.text);
}

pub no_item_at : (cfg : Config) (bytes line rest : List ℕ) → IsSound cfg → IsParted bytes line rest → IsNoItem cfg line → HasNoItem cfg bytes
no_item_at cfg bytes line rest sound parted none = rw parted.whole (has_no_item cfg line rest sound (no_line_feedless line parted.one) none)

pub no_end_at : (cfg : Config) (t : ℕ) (bytes line rest : List ℕ) → IsSound cfg → t < 2 ^ 64 → IsParted bytes line rest → IsNoEnd cfg t line → HasNoEnd cfg t bytes
no_end_at cfg t bytes line rest sound small parted none = rw parted.whole (has_no_end cfg t line rest sound small (no_line_feedless line parted.one) none)

pub no_item_line : (cfg : Config) (bytes : List ℕ) → HasNoLine bytes → HasNoItem cfg bytes
no_item_line cfg bytes none = no_item_feedless cfg bytes (no_line_feedless bytes none)

pub no_end_line : (cfg : Config) (t : ℕ) (bytes : List ℕ) → HasNoLine bytes → HasNoEnd cfg t bytes
no_end_line cfg t bytes none = no_end_feedless cfg t bytes (no_line_feedless bytes none)
