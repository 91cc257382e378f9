-- What was found, as a reply.
use Rattle.std.specs.Prelude.{Some}
use Rattle.read_record.specs.Queries.{Reply, Known, Missing}
use Rattle.site_base.specs.Plain.{nil, int, text}
use Rattle.site_base.specs.View.{plain}
use Rattle.site_world.specs.Sights.{file_text}
use Rattle.site_world.specs.declared.found.Found.{Found}
use Rattle.site_world.specs.declared.found.Found.TheVariants as found

abbrev pub reply_of : Found → Reply
reply_of found.Nothing = Known nil
reply_of (found.Words words) = Known (text words.now)
reply_of (found.Given value) = Known (plain value.now)
reply_of (found.Kept value) = Known value.now
reply_of (found.File bytes) = Known (file_text (Some bytes.now))
reply_of (found.Number number) = Known (int number)
reply_of (found.Needs place) = Missing place
