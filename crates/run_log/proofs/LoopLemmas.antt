-- The reading of a text, line by line.
use Rattle.std.proofs.Common.{◌≡◌, ℕ, ◌+◌, ◌<◌, Bool, true, List, [], ◌∷◌, ◌++◌, length, Result, Ok, Err, refl, ap, sym, ◌∙◌, arith, inr, ◌⊎◌, append_assoc, length-append}
use Rattle.std.specs.List.{flat_map, list_all}
use Rattle.std.proofs.lemmas.List.{append-nil, flat_map_more}
use Rattle.std.proofs.lemmas.List.Folds.{list_all-append}
use Rattle.flat_model.proofs.Elements.{each-append}
use Rattle.flat_model.specs.declared.events.Logged.{Logged}
use Rattle.flat_model.specs.declared.logs.End.{End}
use Rattle.flat_model.specs.declared.logs.Log.{Log}
use Rattle.flat_model.specs.declared.logs.LogErr.{LogErr}
use Rattle.flat_model.specs.declared.logs.LogErr.TheVariants.{BadText, Memory}
use Rattle.flat_model.specs.declared.parts.Config.{Config}
use Rattle.flat_model.specs.Log.{is_named_item}
use Rattle.flat_model.specs.Sound.{IsSound}
use Rattle.flat_model.specs.Text.{end_line, end_lines, item_line}
use Rattle.run_log.specs.Reading.{IsCause, IsLogOf}
use Rattle.run_log.specs.Stops.{AreEndsOf, AreItemsOf, EndsFail, HasNoItem, IsEndAt, IsItemAt}
use Rattle.run_log.specs.Typed.{IsTypedEnd, IsTypedItem}
use Rattle.run_log.proofs.BadLines.{end_lines-append, stops_is_bad}
use Rattle.run_log.proofs.LineLemmas.{end_long, item_long}
use Rattle.run_log.proofs.StopLemmas.{text_unique}

all_push : (p : Logged → Bool) (is : List Logged) (i : Logged) → list_all p is ≡ true → p i ≡ true → list_all p (is ++ i ∷ []) ≡ true
all_push p is i all one = list_all-append p is (i ∷ []) ∙ rw (all, one) refl

-- one more item was read
pub items_more : (cfg : Config) (bytes : List ℕ) (is : List Logged) (rest : List ℕ) (i : Logged) (after : List ℕ) → AreItemsOf cfg bytes is rest → IsItemAt cfg rest i after
    → AreItemsOf cfg bytes (is ++ i ∷ []) after
items_more cfg bytes is rest i after read at =
    let lines = flat_map (item_line cfg) is in
    let all : lines ++ item_line cfg i ≡ flat_map (item_line cfg) (is ++ i ∷ []) = flat_map_more (item_line cfg) [] is i in
    record {
      named = all_push (is_named_item cfg) is i read.named at.named;
      typed = each-append IsTypedItem is (i ∷ []) read.typed (at.typed, tt);
      whole = read.whole ∙ ap (λ xs. lines ++ xs) at.whole ∙ sym (append_assoc lines (item_line cfg i) after) ∙ ap (λ xs. xs ++ after) all;
      short = omega (arith, read.short, ap length at.whole, length-append (item_line cfg i) after, item_long cfg i, length-append is (i ∷ []));
    }

-- what follows an item is shorter
pub item_shorter : (cfg : Config) (rest : List ℕ) (i : Logged) (after : List ℕ) → IsItemAt cfg rest i after → length after < length rest
item_shorter cfg rest i after at = omega (arith, ap length at.whole, length-append (item_line cfg i) after, item_long cfg i)

-- one more end was read
pub ends_more : (cfg : Config) (bytes : List ℕ) (es : List End) (rest : List ℕ) (t : ℕ) (e : End) (after : List ℕ) → AreEndsOf cfg bytes es rest → length es ≡ t → IsEndAt cfg t rest e after
    → AreEndsOf cfg bytes (es ++ e ∷ []) after
ends_more cfg bytes es rest t e after read count at =
    let lines = end_lines cfg 0 es in
    let place : t ≡ 0 + length es = omega (arith, count) in
    let all : lines ++ (end_line cfg t e ++ []) ≡ end_lines cfg 0 (es ++ e ∷ []) = ap (λ n. lines ++ end_lines cfg n (e ∷ [])) place ∙ sym (end_lines-append cfg 0 es (e ∷ [])) in
    record {
      typed = each-append IsTypedEnd es (e ∷ []) read.typed (at.typed, tt);
      whole = read.whole ∙ ap (λ xs. lines ++ xs) at.whole ∙ sym (append_assoc lines (end_line cfg t e) after)
          ∙ ap (λ xs. (lines ++ xs) ++ after) (sym (append-nil (end_line cfg t e))) ∙ ap (λ xs. xs ++ after) all;
      short = omega (arith, read.short, ap length at.whole, length-append (end_line cfg t e) after, end_long cfg t e, length-append es (e ∷ []));
    }

-- why the reading failed
pub ends_cause : (cfg : Config) (bytes : List ℕ) (is : List Logged) (rest : List ℕ) (before : ℕ) (e : LogErr) → IsSound cfg → AreItemsOf cfg bytes is rest → HasNoItem cfg rest
    → before ≡ length is → EndsFail cfg rest before e → IsCause cfg bytes e
ends_cause cfg bytes is rest before (BadText k) sound read none count fail = stops_is_bad cfg bytes is rest k sound read none (rw (← count) fail)
ends_cause cfg bytes is rest before Memory sound read none count fail = tt

-- a failure over the text of a log is want of memory
pub memory_only : (cfg : Config) (bytes : List ℕ) (e : LogErr) (r : Result Log LogErr) (log : Log) → r ≡ Err e → IsCause cfg bytes e → IsLogOf cfg bytes log → (r ≡ Ok log) ⊎ (r ≡ Err Memory)
memory_only cfg bytes (BadText k) r log is cause of = absurd (cause.none log of)
memory_only cfg bytes Memory r log is cause of = inr is

-- what was read is a log of the bytes
pub read_is : (cfg : Config) (bytes : List ℕ) (is : List Logged) (rest : List ℕ) (es : List End) → AreItemsOf cfg bytes is rest → AreEndsOf cfg rest es [] → length es ≡ length cfg.threads
    → IsLogOf cfg bytes (record { items = is; ends = es })
read_is cfg bytes is rest es items ends count = record {
  named = record { items = items.named; ends = count };
  typed = record { items = items.typed; ends = ends.typed };
  text = ap (λ xs. flat_map (item_line cfg) is ++ xs) (sym (append-nil (end_lines cfg 0 es)) ∙ sym ends.whole) ∙ sym items.whole;
}

-- and it is the only one
pub read_is_one : (cfg : Config) (bytes : List ℕ) (log other : Log) → IsSound cfg → IsLogOf cfg bytes log → IsLogOf cfg bytes other → log ≡ other
read_is_one cfg bytes log other sound of also =
    text_unique cfg log other sound of.named of.typed also.named also.typed (of.text ∙ sym also.text)
