-- The bytes of a reply.
use Rattle.std.specs.Prelude.{ℕ, Bool, List, [], ◌++◌, length, codes, flat_map, Option, Some, None, if◌then◌else◌}
use Rattle.std.specs.Fmt.{decimal}
use Rattle.site_base.specs.Faults.{fault_number}
use Rattle.site_base.specs.declared.faults.SiteFault.{SiteFault}
use Rattle.site_script.specs.Line.{script_number}
use Rattle.site_sentences.specs.Shown.{shown}
use Rattle.link_check.specs.declared.answering.Broken.{Broken}
use Rattle.site_session.specs.declared.build.Report.{Report}
use Rattle.site_session.specs.declared.links.LinkReport.{LinkReport}
use Rattle.site_session.specs.KeyTexts.{item_text, key_text}
use Rattle.read_record.specs.declared.key.Key.{Key}
use Rattle.render_workers.specs.declared.answers.Why.{Why}
use Rattle.site_session.specs.declared.reply.Reply.{Reply}
use Rattle.site_session.specs.declared.reply.Reply.TheVariants as reply
use Rattle.site_session.specs.declared.reply.Reply.TheVariants.{Scanned, ScanFailed, Faulty, Fine, Absent, Built, Marked, Unlisted, BadLine, Silent}

abbrev pub fault_line : SiteFault → List ℕ
fault_line fault = codes "fault F" ++ (decimal (fault_number fault.kind) ++ (codes " " ++ (decimal fault.line ++ (codes " " ++ (fault.path ++ codes "\n")))))

abbrev pub built_line : Report → List ℕ
built_line report =
    codes "built rendered=" ++ (decimal report.rendered ++ (codes " reused=" ++ (decimal report.reused
    ++ (codes " written=" ++ (decimal report.written ++ (codes " removed=" ++ (decimal report.removed ++ codes "\n")))))))

-- why an item was rendered: it is new, or this is the first key that gave another value
abbrev pub reason_text : Option Key → List ℕ
reason_text None = codes "new"
reason_text (Some key) = key_text key

-- names come from outside, so control characters in them are shown as question marks
abbrev pub why_line : Why → List ℕ
why_line why = codes "why " ++ (shown (item_text why.name ++ (codes " " ++ reason_text why.key)) ++ codes "\n")

-- where reasons are told, they stand before what was built
abbrev pub why_lines : Bool → Report → List ℕ
why_lines tells report = if tells then flat_map why_line report.why else []

abbrev pub marked_line : List ℕ → List ℕ
marked_line path = codes "marked " ++ (path ++ codes "\n")

-- a value comes from a page, so control characters in it are shown as question marks
abbrev pub broken_line : Broken → List ℕ
broken_line link = codes "broken " ++ (link.from ++ (codes " " ++ (shown link.value ++ codes "\n")))

abbrev pub links_lines : LinkReport → List ℕ
links_lines report =
    codes "links " ++ (decimal (length report.broken) ++ (codes " scanned=" ++ (decimal report.scanned ++ (codes "\n" ++ flat_map broken_line report.broken))))

-- each line with its end
abbrev pub reply_bytes : Bool → Reply → List ℕ
reply_bytes tells (Scanned count) = codes "scanned " ++ (decimal count ++ codes "\n")
reply_bytes tells ScanFailed = codes "scan-fault\n"
reply_bytes tells (Faulty fault) = fault_line fault
reply_bytes tells Fine = codes "ok\n"
reply_bytes tells Absent = codes "absent\n"
reply_bytes tells (Built report) = why_lines tells report ++ built_line report
reply_bytes tells (Marked paths) = codes "out-fault " ++ (decimal (length paths) ++ (codes "\n" ++ flat_map marked_line paths))
reply_bytes tells Unlisted = codes "out-fault 0\n"
reply_bytes tells (BadLine number kind) = codes "script " ++ (decimal number ++ (codes " " ++ (decimal (script_number kind) ++ codes "\n")))
reply_bytes tells (reply.Links report) = links_lines report
reply_bytes tells Silent = []

-- the replies, one after another
abbrev pub written : Bool → List Reply → List ℕ
written tells replies = flat_map (reply_bytes tells) replies
