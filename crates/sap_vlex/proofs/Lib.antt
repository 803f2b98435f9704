mod FrontIs
mod Signs
