use Rattle.std.proofs.Common.{◌∙◌, ap}
use Rattle.serde_json.specs.Data.{put}
use Rattle.serde_json.specs.View.{view, members_view}
use Rattle.serde_json.proofs.Views.{members_view-insert_entry}
use Rattle.jekyll_filters.proofs.json_texts.put.Goals as goal

pub returns-in-Ok : goal.returns-in-Ok
returns-in-Ok c =
    let es = c.args.members.now.entries in
    ap members_view c.in-Ok.ensures.entries
    ∙ members_view-insert_entry es c.in_ok-name.name c.args.value
    ∙ ap (λ k. put k (view c.args.value) (members_view es)) c.in_ok-name.ensures.ok
