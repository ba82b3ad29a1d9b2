-- Each turn lists one entry more.
use Rattle.std.proofs.Common.{[], ◌∷◌, ◌++◌, sym, ap, ◌∙◌, ap₂}
use Rattle.std.proofs.lemmas.List.{map_push}
use Rattle.tables.specs.Tables.{counted}
use Rattle.questions.specs.Dictionaries.{listed}
use Rattle.questions.specs.Walks.{item_of}
use Rattle.questions.proofs.Walking.{found_more}
use Rattle.questions.proofs.listing.list_dictionary.Goals as goal

pub loop-found-preserved : goal.loop-found-preserved
loop-found-preserved c =
    let done = c.loop-found.invariant.passed in
    let found = c.in-Ok.found in
    let counts = c.count_codes.ensures ∙ ap counted c.table.ensures in
    record {
      can_go_on = tt;
      ends = tt;
      same_file = c.in-Some.ensures.steps.0 ∙ c.loop-found.invariant.same_file;
      passed = (
        done.0 ++ item_of found ∷ [],
        c.in_ok-push-in-Ok.ensures.items ∙ ap₂ (λ es n. es ++ record { at = found.at; entry = found.entry; counts = n } ∷ []) done.1 counts ∙ sym (map_push listed done.0 (item_of found)),
        found_more c.args.file.now _ done.0 _ _ c.in-Some.found found c.loop-found.invariant.same_file done.2 c.in-Some.ensures.steps.1 c.in-Ok.is,
      );
    }
