use Rattle.std.proofs.Common.{◌∙◌, sym, ap, Ok}
use Rattle.std.proofs.lemmas.Result.{err_from_is_err_and}
use Rattle.config_reader.specs.declared.kind.Kind.TheVariants.{Tier, Must, Wanted}
use Rattle.config_reader.specs.Judgement.{on_ok, with_must, with_wanted}
use Rattle.config_reader.specs.inside.Drafts.{standing_of}
use Rattle.config_reader.proofs.Drafts.{line_of_kind, refused_on_ok}
use Rattle.config_reader.proofs.draft.Draft.after.Goals as goal

pub returns-in-Tier-clause-ok : goal.returns-in-Tier-clause-ok
returns-in-Tier-clause-ok c =
    let kind = rw c.as_slice-tokens.ensures at (sym c.in_version.ensures ∙ c.in-Tier.is) in
    let tier = rw c.as_slice-tokens.ensures at c.tier_of_line.ensures in
    rw (line_of_kind c.args.version c.args.names.now c.args.bytes.now Tier (standing_of c.args.self) c.args.line.now kind)
    (rw tier at c.with_tier.ensures.ok)

pub returns-in-Tier-clause-refused : goal.returns-in-Tier-clause-refused
returns-in-Tier-clause-refused c =
    let kind = rw c.as_slice-tokens.ensures at (sym c.in_version.ensures ∙ c.in-Tier.is) in
    let tier = rw c.as_slice-tokens.ensures at c.tier_of_line.ensures in
    rw (line_of_kind c.args.version c.args.names.now c.args.bytes.now Tier (standing_of c.args.self) c.args.line.now kind)
    (rw tier at c.with_tier.ensures.refused)

pub returns-in_ok-with_must-in-Must-clause-ok : goal.returns-in_ok-with_must-in-Must-clause-ok
returns-in_ok-with_must-in-Must-clause-ok c =
    let kind = rw c.as_slice-tokens.ensures at (sym c.in_version.ensures ∙ c.in-Must.is) in
    let stated = rw (c.len-count.ensures, c.after_first.ensures, c.as_slice-tokens.ensures) at c.in_ok-must-in-Must.ensures.ok in
    line_of_kind c.args.version c.args.names.now c.args.bytes.now Must (standing_of c.args.self) c.args.line.now kind
    ∙ ap (on_ok (with_must (standing_of c.args.self))) stated ∙ sym (ap Ok c.in_ok-with_must-in-Must.ensures)

pub returns-in_ok-with_wanted-in-Wanted-clause-ok : goal.returns-in_ok-with_wanted-in-Wanted-clause-ok
returns-in_ok-with_wanted-in-Wanted-clause-ok c =
    let kind = rw c.as_slice-tokens.ensures at (sym c.in_version.ensures ∙ c.in-Wanted.is) in
    let stated = rw (c.as_slice-count.ensures.value, c.as_slice-tokens.ensures) at c.in_ok-wanted-in-Wanted.ensures.ok in
    line_of_kind c.args.version c.args.names.now c.args.bytes.now Wanted (standing_of c.args.self) c.args.line.now kind
    ∙ ap (on_ok (with_wanted (standing_of c.args.self))) stated ∙ sym (ap Ok c.in_ok-with_wanted-in-Wanted.ensures)

pub returns-in_err-must-in-Must-clause-refused : goal.returns-in_err-must-in-Must-clause-refused
returns-in_err-must-in-Must-clause-refused c =
    let p = err_from_is_err_and c.from_residual.result c.from_residual.ensures.1 in
    let kind = rw c.as_slice-tokens.ensures at (sym c.in_version.ensures ∙ c.in-Must.is) in
    let refused = rw (c.len-count.ensures, c.after_first.ensures, c.as_slice-tokens.ensures) at c.in_err-must-in-Must.ensures.refused in
    rw (p.1, p.2, line_of_kind c.args.version c.args.names.now c.args.bytes.now Must (standing_of c.args.self) c.args.line.now kind)
    (refused_on_ok (with_must (standing_of c.args.self)) _ _ refused)

pub returns-in_err-wanted-in-Wanted-clause-refused : goal.returns-in_err-wanted-in-Wanted-clause-refused
returns-in_err-wanted-in-Wanted-clause-refused c =
    let p = err_from_is_err_and c.from_residual-in_err-wanted-in-Wanted.result c.from_residual-in_err-wanted-in-Wanted.ensures.1 in
    let kind = rw c.as_slice-tokens.ensures at (sym c.in_version.ensures ∙ c.in-Wanted.is) in
    let refused = rw (c.as_slice-count.ensures.value, c.as_slice-tokens.ensures) at c.in_err-wanted-in-Wanted.ensures.refused in
    rw (p.1, p.2, line_of_kind c.args.version c.args.names.now c.args.bytes.now Wanted (standing_of c.args.self) c.args.line.now kind)
    (refused_on_ok (with_wanted (standing_of c.args.self)) _ _ refused)
