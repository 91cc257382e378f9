mod LayoutLaws
mod RenderLaws
